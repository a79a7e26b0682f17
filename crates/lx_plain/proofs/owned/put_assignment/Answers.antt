use Rattle.std.proofs.Common.{arith}
use Rattle.lx_plain.proofs.Puts.{as_many, assign_added, one_put, owned_kept}
use Rattle.lx_plain.proofs.owned.put_assignment.Goals as goal

pub put_own-requires : goal.put_own-requires
put_own-requires c =
    let g = c.in_ok-target.ensures.grows in
    record {
      out = owned_kept c.args.out.now g c.requires.out;
      signal = omega (arith, as_many g, c.requires.target.signal);
      node = assign_added _ _ _ _ _ _ c.in_ok-target.ensures c.requires.value;
    }

pub returns : goal.returns
returns c = one_put _ _ _ _ _ _ _ _ c.args.value c.args.line c.requires.out c.requires.value c.in_ok-target.ensures c.requires.target.plain c.in_ok-put_own.ensures
