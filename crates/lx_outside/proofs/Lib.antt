mod Parts
mod CutsLemmas
