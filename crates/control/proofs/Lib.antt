pub mod SeparateLaws
pub mod SpanLaws
