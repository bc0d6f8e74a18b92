use Rattle.oathd_acts.proofs.plain.migrate_numbered.Goals as goal

pub returns : goal.returns
returns g c = (_, c.in_ok-_conn._conn, c.in_ok-_conn.ensures.migrated)
