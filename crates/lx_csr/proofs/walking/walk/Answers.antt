use Rattle.std.proofs.Common.{◌≡◌, ◌∙◌, ap, subst, sym}
use Rattle.std.proofs.lemmas.Option.{slice_get_within}
use Rattle.lx_fhdl.specs.Keeping.{EachOf}
use Rattle.lx_csr.specs.Collected.{registers_of}
use Rattle.lx_csr.specs.Gathered.{HasRoom, with_attributes}
use Rattle.lx_csr.specs.Walked.{IsFrame, pending}
use Rattle.lx_csr.proofs.Frames.{first_frame, walk_start}
use Rattle.lx_csr.proofs.walking.walk.Goals as goal

pub loop-frame-init : goal.loop-frame-init
loop-frame-init c =
    let stack : c.in_ok-stack.stack ≡ first_frame c.args.place c.args.module.now.name = c.in_ok-stack.ensures ∙ ap (first_frame c.args.place) c.in_ok-copied.ensures in
    let e = ap (pending c.args.modules.now) stack ∙ walk_start c.args.modules.now c.requires.nested c.args.place c.args.module.now c.requires.there in
    record {
      same = ap (with_attributes c.args.gathered.now) e;
      room = subst (λ xs. HasRoom c.args.gathered.now (registers_of xs)) (sym e) c.requires.room;
      frames = subst (λ fs. EachOf (IsFrame c.args.modules.now) fs) (sym stack) (slice_get_within c.args.modules.now c.args.place c.args.module.now c.requires.there, tt);
    }
