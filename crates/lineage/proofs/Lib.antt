mod Grouping
mod OnLines
