pub mod Allowance
pub mod NodeStatus
pub mod Reports
pub mod Responder
pub mod Text
