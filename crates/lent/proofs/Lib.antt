mod Numbers
mod Grounds
