use Rattle.std.proofs.Common.{arith}
use Rattle.floor_sql.specs.declared.schema.Format.TheVariants.{Numbered}
use Rattle.oathd_database.proofs.file_laws.openings_find_what_is_left.Goals as goal

pub returns : goal.returns
returns g c store left given tokens again stop opened clean =
    let found = opened.found (omega (arith, clean, opened.opened.kept.survives.clean)) in
    c.stores_are_opened_again.ensures store left again (record {
      clean = stop.clean;
      numbered = stop.numbered;
      databases = stop.databases;
      may = stop.may;
      conn = opened.conn;
      found = found.1;
      fresh = found.0.0;
      node = opened.node;
      tokens = tokens;
      format = Numbered;
      opened = opened.opened;
      honest = clean;
    })
