mod SpanLemmas
mod PlanLemmas
