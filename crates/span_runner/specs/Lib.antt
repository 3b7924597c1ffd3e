pub mod SpanCalls
