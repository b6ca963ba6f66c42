mod Bytes
mod Ranges
pub mod RoundTrip
