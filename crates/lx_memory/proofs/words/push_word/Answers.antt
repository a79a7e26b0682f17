use Rattle.lx_fhdl.proofs.Drafts.{draft_small}
use Rattle.lx_memory.proofs.Fetching.{fetched_kept, reached, reads_kept, word_guarded, word_here, word_plain, word_put}
use Rattle.lx_memory.proofs.Nodes.{grows_then}
use Rattle.lx_memory.proofs.words.push_word.Goals as goal

pub push_fetch-requires-clause-plain : goal.push_fetch-requires-clause-plain
push_fetch-requires-clause-plain c = word_plain c.in_ok-at.ensures.grows c.requires c.in_ok-at.ensures.has

pub reaches_past-requires : goal.reaches_past-requires
reaches_past-requires c = rw c.shape_of-bits.ensures (draft_small _ c.keeps.ensures c.args.port.adr.0).most

pub push_guarded-requires-clause-read : goal.push_guarded-requires-clause-read
push_guarded-requires-clause-read c = reads_kept (grows_then c.in_ok-at.ensures.grows c.in_ok-word.ensures.grows) c.requires

pub push_guarded-requires-clause-word : goal.push_guarded-requires-clause-word
push_guarded-requires-clause-word c = fetched_kept c.args.port {s = c.args.x} (grows_then c.in_ok-at.ensures.grows c.in_ok-word.ensures.grows) (word_put c.args.port {s = c.args.x} c.in_ok-at.ensures c.in_ok-word.ensures).has

pub returns-in_ok-id : goal.returns-in_ok-id
returns-in_ok-id c =
    word_guarded c.args.port {s = c.args.x} (reached c.if-reaches_past.true c.reaches_past.ensures c.depth_of-depth.ensures c.shape_of-bits.ensures) (grows_then c.in_ok-at.ensures.grows c.in_ok-word.ensures.grows) c.in_ok-id.ensures

pub returns-else-reaches_past : goal.returns-else-reaches_past
returns-else-reaches_past c =
    word_here c.args.port {s = c.args.x} (reached c.if-reaches_past.false c.reaches_past.ensures c.depth_of-depth.ensures c.shape_of-bits.ensures) (word_put c.args.port {s = c.args.x} c.in_ok-at.ensures c.in_ok-word.ensures)
