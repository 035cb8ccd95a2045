-- Arguments determine one request.
use Rattle.std.proofs.Common.{◌≡◌, Some}
use Rattle.commandline.specs.CommandLine.{Asked}

pub same_asked : (one other : Asked) → Some one ≡ Some other → one ≡ other
same_asked one other same = cc
