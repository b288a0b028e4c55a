mod CaseLemmas
