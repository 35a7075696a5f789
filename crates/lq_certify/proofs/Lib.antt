pub mod CertifiedLemmas
