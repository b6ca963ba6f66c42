mod CutLaws
mod Replays
mod Sums
mod Moves
mod Comparing
mod RunLaws
