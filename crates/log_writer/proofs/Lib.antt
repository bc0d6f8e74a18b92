pub mod WaitingLemmas
pub mod SyslogLemmas
