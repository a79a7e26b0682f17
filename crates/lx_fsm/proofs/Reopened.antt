-- A design that grows again keeps what drafts keep.
use Rattle.std.proofs.Common.{◌≡◌, ℕ, ℤ, zero, suc, ◌≤◌, Bool, true, false, List, [], ◌∷◌, Option, Some, None, length, map, refl, sym, ap, subst, ◌∙◌, arith}
use Rattle.std.specs.Prelude.{slice_get, slice_index_or, slice_set}
use Rattle.lx_num.specs.Ints.{Fits}
use Rattle.lx_circuit.specs.Circuit as circuit
use Rattle.lx_fhdl.specs.Designs.{circuit_of, made_of, shapes}
use Rattle.lx_fhdl.specs.Drafts.{HaveDomains, IsDraft, IsDraftPort, domains_to}
use Rattle.lx_fhdl.specs.Keeping.{EachOf, HasDomain, IsSignal, Keeps, PortStands, is_clocked}
use Rattle.lx_fhdl.specs.declared.design.Design.{Design}
use Rattle.lx_fhdl.specs.declared.design.Port.{Port}
use Rattle.lx_fhdl.specs.declared.design.Signal.{Signal}
use Rattle.lx_fhdl.proofs.Wider.{IsWider, arenas_wider, ports_wider}
use Rattle.lx_fsm.specs.Flattened.{with_reset}

-- ---- from a whole design

domain_named : (n : ℕ) (b : Bool) (o : Option ℕ) → HasDomain n b o → HasDomain (domains_to o) b o
domain_named n true None h = absurd h
domain_named n true (Some k) h = omega arith
domain_named n false o h = h

ports_draft : (n : ℕ) (d : Design) (qs : List Port) → EachOf (PortStands n d) qs → EachOf (IsDraftPort d) qs
ports_draft n d [] h = tt
ports_draft n d (q ∷ qs) h = (
  record {
    memory = h.0.memory;
    domain = domain_named n (is_clocked q.mode q.we) q.domain h.0.domain;
    adr = h.0.adr;
    dat_r = h.0.dat_r;
    writer = h.0.writer;
    part_some = h.0.part_some;
    parts = h.0.parts;
  },
  ports_draft n d qs h.1,
)

pub is_draft : (d : Design) → Keeps d → IsDraft d
is_draft d h = record {
  keeps = record { arenas = h.arenas; signals = h.signals; memories = h.memories };
  ports = ports_draft (length d.domains) d d.ports h.ports;
}

domain_most : (n : ℕ) (b : Bool) (o : Option ℕ) → HasDomain n b o → domains_to o ≤ n
domain_most n true None h = absurd h
domain_most n true (Some k) h = omega (arith, h)
domain_most n false o h = subst (λ (p : Option ℕ). domains_to p ≤ n) (sym h) (omega arith)

pub have_domains : (n : ℕ) (d : Design) (qs : List Port) → EachOf (PortStands n d) qs → HaveDomains n qs
have_domains n d [] h = tt
have_domains n d (q ∷ qs) h = (domain_most n (is_clocked q.mode q.we) q.domain h.0.domain, have_domains n d qs h.1)

-- ---- another reset value

pub reset_long : (z : ℤ) (x : ℕ) (ss : List Signal) → length (with_reset z x ss) ≡ length ss
reset_long z x [] = refl
reset_long z zero (s ∷ ss) = refl
reset_long z (suc x) (s ∷ ss) = ap suc (reset_long z x ss)

reset_made : (z : ℤ) (x : ℕ) (ss : List Signal) (y : ℕ) → (slice_index_or (map made_of (with_reset z x ss)) y circuit.nothing).shape ≡ (slice_index_or (map made_of ss) y circuit.nothing).shape
reset_made z x [] y = refl
reset_made z zero (s ∷ ss) zero = refl
reset_made z zero (s ∷ ss) (suc y) = refl
reset_made z (suc x) (s ∷ ss) zero = refl
reset_made z (suc x) (s ∷ ss) (suc y) = reset_made z x ss y

abbrev pub another : Design → ℤ → ℕ → Design
another d z x = record d { signals = with_reset z x d.signals }

pub reset_shapes : (d : Design) (z : ℤ) (x y : ℕ) → shapes (another d z x) y ≡ shapes d y
unfolding circuit_of
reset_shapes d z x y = reset_made z x d.signals y

reset_wider : (d : Design) (z : ℤ) (x : ℕ) → IsWider d (another d z x)
unfolding circuit_of
reset_wider d z x = record {
  arenas = record {
    longer = omega (arith, reset_long z x d.signals);
    shapes = λ y l. reset_made z x d.signals y;
    memories = λ k y h. h;
  };
  memories_more = omega arith;
  memories = λ m l. refl;
}

reset_signals : (z : ℤ) (x : ℕ) (ss : List Signal) → Fits (slice_index_or (map made_of ss) x circuit.nothing).shape z → EachOf IsSignal ss → EachOf IsSignal (with_reset z x ss)
reset_signals z x [] f h = tt
reset_signals z zero (s ∷ ss) f h = (record { some = h.0.some; most = h.0.most; reset = f; path = h.0.path }, h.1)
reset_signals z (suc x) (s ∷ ss) f h = (h.0, reset_signals z x ss f h.1)

pub reset_draft : (d : Design) (z : ℤ) (x : ℕ) → Fits (shapes d x) z → IsDraft d → IsDraft (another d z x)
unfolding circuit_of
reset_draft d z x f draft =
    let w = reset_wider d z x in
    record {
      keeps = record {
        arenas = arenas_wider (shapes d) (shapes (another d z x)) (length d.signals) (length (with_reset z x d.signals)) d.memories d.memories d.exprs d.targets d.stmts w.arenas draft.keeps.arenas;
        signals = reset_signals z x d.signals f draft.keeps.signals;
        memories = draft.keeps.memories;
      };
      ports = ports_wider d (another d z x) d.ports w draft.ports;
    }

-- a signal is put back with the value
pub reset_is : (ss : List Signal) (x : ℕ) (z : ℤ) (s t : Signal) → slice_get ss x ≡ Some s → slice_set (slice_set ss x t) x (record s { reset = z }) ≡ with_reset z x ss
reset_is [] x z s t e = absurd (cc)
reset_is (r ∷ rs) zero z s t e = let same : r ≡ s = cc in ap (λ (q : Signal). record q { reset = z } ∷ rs) (sym same)
reset_is (r ∷ rs) (suc x) z s t e = ap (λ l. r ∷ l) (reset_is rs x z s t e)

pub reset_put : (ss ts us : List Signal) (x : ℕ) (y z : ℤ) (s t : Signal) → y ≡ z → slice_get ss x ≡ Some s → ts ≡ slice_set ss x t → us ≡ slice_set ts x (record s { reset = y }) → us ≡ with_reset z x ss
reset_put ss ts us x y z s t same e f g =
    g
    ∙ ap (λ (l : List Signal). slice_set l x (record s { reset = y })) f
    ∙ reset_is ss x y s t e
    ∙ ap (λ (i : ℤ). with_reset i x ss) same
