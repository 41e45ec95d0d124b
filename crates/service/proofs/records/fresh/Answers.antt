-- `service::records::fresh` meets its contract.
use Rattle.refusals.proofs.TestLaws.{passed_number}
use Rattle.layouts.proofs.AllowedLaws.{setup_is}
use Rattle.chains.proofs.Running.{start_asks}
use Rattle.service.proofs.records.fresh.Goals as goal

pub start-requires : goal.start-requires
start-requires c =
    let a = setup_is c.args.scheme c.args.n c.args.f (passed_number _ c.requires) in
    start_asks c.args.scheme c.args.n a.scheme_ok a.n_ok
