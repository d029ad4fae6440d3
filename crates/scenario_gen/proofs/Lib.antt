mod Numbers
mod Rings
mod Running
mod States
