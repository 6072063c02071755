mod Beyond
mod Moving
mod Values
