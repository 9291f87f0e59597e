pub mod MethodLemmas
