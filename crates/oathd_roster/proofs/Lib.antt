mod EnrolmentLemmas
pub mod UsersLemmas
mod OpenedLemmas
mod EnrolledLemmas
mod BegunLemmas
mod RosterLemmas
