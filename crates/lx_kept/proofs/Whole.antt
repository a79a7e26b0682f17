-- The whole test, from its parts.
use Rattle.std.proofs.Common.{◌≡◌, Bool, true, false, ◌&&◌, refl}
use Rattle.std.specs.List.{list_all}
use Rattle.std.proofs.lemmas.Bool.{and_parts}
use Rattle.lx_fhdl.specs.Kept.{are_domains, is_kept, is_memory, is_port, is_signal, is_there, list_stands, part_stands}
use Rattle.lx_fhdl.specs.Designs.{shapes}
use Rattle.lx_fhdl.specs.declared.design.Design.{Design}
use Rattle.lx_fhdl.specs.Below.{all_stmts_below}
use Rattle.lx_fhdl.specs.Keeping.{block_depth}
use Rattle.lx_fhdl.specs.Designs.{block}
use Rattle.lx_fhdl.specs.declared.design.SyncPart.{SyncPart}
use Rattle.lx_fhdl.proofs.Kept.{each_of}
use Rattle.std.specs.Prelude.{length, nat_le, nat_lt}
use Rattle.lx_kept.specs.Given.{HasArenas, ListsAreThere, PartIsThere, kept_parts, lists_stand}
use Rattle.lx_kept.proofs.Complete.{arenas_pass}

moved : (s m p l d i : Bool) → ((s && (m && p)) && (l && (d && i))) ≡ ((s && (m && (p && i))) && (l && d))
moved false m p l d i = refl
moved true false p l d i = refl
moved true true false l d i = refl
moved true true true false d true = refl
moved true true true false d false = refl
moved true true true true true true = refl
moved true true true true true false = refl
moved true true true true false true = refl
moved true true true true false false = refl

pub kept_is : (d : Design) → HasArenas d → is_kept d ≡ (kept_parts d && (lists_stand d && are_domains d))
unfolding is_kept
kept_is d arenas =
    rw (arenas_pass (shapes d) (length d.signals) d.memories d.exprs d.targets d.stmts arenas)
    (moved (list_all is_signal d.signals) (list_all is_memory d.memories) (list_all (is_port d) d.ports) (lists_stand d) (are_domains d) (list_all (is_there d) d.ios))

-- lists that stand are there
part_there : (d : Design) (p : SyncPart) → part_stands d p ≡ true → PartIsThere d p
part_there d p h =
    let q = and_parts (nat_lt p.domain (length d.domains)) (list_stands d p.stmts) h in
    record { domain = q.0; stmts = (and_parts (all_stmts_below (length d.stmts) p.stmts) (nat_le (block_depth (block d p.stmts)) 128) q.1).0 }

pub lists_there : (d : Design) → lists_stand d ≡ true → ListsAreThere d
lists_there d h =
    let p = and_parts (list_stands d d.comb) (list_all (part_stands d) d.sync) h in
    record {
      comb = (and_parts (all_stmts_below (length d.stmts) d.comb) (nat_le (block_depth (block d d.comb)) 128) p.0).0;
      sync = each_of (PartIsThere d) (part_stands d) d.sync (part_there d) p.1;
    }
