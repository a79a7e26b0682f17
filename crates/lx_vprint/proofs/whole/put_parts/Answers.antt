use Rattle.lx_vprint.proofs.Joined.{module_joined}
use Rattle.lx_vprint.proofs.whole.put_parts.Goals as goal

pub returns : goal.returns
returns c = module_joined c.args.parts.now c.args.out.now c.word.new.self c.put_ports.new.out c.word-2.new.self c.put_decls.new.out c.put_inits.new.out c.put_assigns.new.out c.put_always_blocks.new.out c.word-3.new.self
    c.as_slice.result.now c.as_slice-2.result.now c.as_slice-3.result.now c.as_slice-4.result.now c.as_slice-5.result.now
    c.as_slice.ensures c.as_slice-2.ensures c.as_slice-3.ensures c.as_slice-4.ensures c.as_slice-5.ensures
    c.in_ok-word.ensures.ok c.in_ok-put_ports.ensures c.in_ok-word-2.ensures.ok c.in_ok-put_decls.ensures c.in_ok-put_inits.ensures c.in_ok-put_assigns.ensures c.in_ok-put_always_blocks.ensures c.in_ok-word-3.ensures.ok
