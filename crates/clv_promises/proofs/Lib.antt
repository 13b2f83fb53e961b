mod Asking
mod Bindings
mod Samples
mod Sides
