mod Bus
mod Counts
mod Free
mod Rows
mod Sound
mod Undriven
mod Wires
