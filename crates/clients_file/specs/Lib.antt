pub mod Address
pub mod Fields
pub mod Said
pub mod ClientsFile
pub mod Clients
pub mod Examples
pub mod Operator
