use Rattle.oathd.proofs.DoneLemmas.{done_so, is_stopped, stopped_done}
use Rattle.oathd.proofs.performing.perform.Goals as goal

pub returns-in-Serve : goal.returns-in-Serve
returns-in-Serve g c =
    done_so _ _ c.args.site.now.cluster.now _ _ c.args.action _ c.serve_logged.result c.in-Serve.is c.serve_logged.ensures

pub returns-in_default : goal.returns-in_default
returns-in_default g c = stopped_done _ _ c.args.site.now.cluster.now _ _ c.args.action c.perform.result c.perform.ensures

pub perform-requires : goal.perform-requires
perform-requires g c = record { range = c.requires; stopped = is_stopped c.args.action c.in_default.not-Serve }
