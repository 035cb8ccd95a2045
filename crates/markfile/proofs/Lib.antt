mod Found
mod Moments
mod NewMarks
mod Ranges
mod Single
mod Torn
mod Unstarted
