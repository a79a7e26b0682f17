use Rattle.lx_csr.proofs.Steps.{header_by}
use Rattle.lx_csr.proofs.collecting.header_names.Goals as goal

pub returns : goal.returns
returns c = header_by c.args.d.now c.args.gathered.now c.requires.soc c.requires.gathered
    c.new-names.result c.push_banks.new.names c.push_interrupts.new.names c.push_constants.new.names c.push_constants-2.new.names c.push_regions.new.names
    c.as_slice.result.now c.as_slice-2.result.now c.as_slice-3.result.now c.as_slice-4.result.now c.as_slice-5.result.now
    c.new-names.ensures c.as_slice.ensures c.as_slice-2.ensures c.as_slice-3.ensures c.as_slice-4.ensures c.as_slice-5.ensures
    c.in_ok-push_banks.ensures c.in_ok-push_interrupts.ensures c.in_ok-push_constants.ensures c.in_ok-push_constants-2.ensures c.in_ok-push_regions.ensures
