mod InFolders
mod Refused
mod Timed
