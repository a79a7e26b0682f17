use Rattle.lx_memory.proofs.Nodes.{grows_then}
use Rattle.lx_memory.proofs.Shown.{address_read, address_shown}
use Rattle.lx_memory.proofs.lowering.keep_address.Goals as goal

pub push_word-requires : goal.push_word-requires
push_word-requires c = address_read {kept = c.in_ok-kept.kept} c.requires c.in_ok-kept.ensures (grows_then c.in_ok-address.ensures.grows c.in_ok-stmt.ensures.grows) c.in_ok-put_sync.ensures

pub returns : goal.returns
returns c =
    address_shown {kept = c.in_ok-kept.kept} {address = c.in_ok-address.address} {stmt = c.in_ok-stmt.stmt} c.requires c.in_ok-kept.ensures c.stands.ensures c.in_ok-address.ensures c.in_ok-stmt.ensures c.in_ok-put_sync.ensures
    c.stands-2.ensures c.in_ok-id.ensures
