use Rattle.oathd_database.proofs.ReachLemmas.{reached}
use Rattle.oathd_database.proofs.laws.files_reach.Goals as goal

pub returns : goal.returns
returns c n tokens opening events may loss last book own files found each read asked node lost none members named =
    reached c.floors_tell_all.ensures.rise n tokens opening events may loss last book own files found each read asked node lost none members named
