pub mod Printed
pub mod Payloads
