mod MeasureLemmas
mod SeenLemmas
