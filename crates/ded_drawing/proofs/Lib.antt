mod Sighted
mod Told
