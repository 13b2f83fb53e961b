mod Judged
mod Samples
