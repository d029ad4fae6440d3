mod Whole
mod Wired
