-- Replacing a part of a list.
use Rattle.std.proofs.Common.{◌≡◌, ℕ, ◌+◌, ◌≤◌, List, ◌++◌, length, take, drop, arith, length-append}
use Rattle.std.proofs.lemmas.List.{length-drop, length-take-le}
use borrow.Rule.Slice.PartMut.{post_of, put_mid}

-- replacing a part by one of the same length keeps the length of the list
pub length-put_mid : {X : Type 0} (a k : ℕ) (old new : List X) → a + k ≤ length old → length new ≡ k
    → length (put_mid a k old new) ≡ length old
length-put_mid a k old new inside whole =
    let front = length-append (take a old) (new ++ post_of a k old) in
    let back = length-append new (post_of a k old) in
    let first = length-take-le a old (omega arith) in
    let rest = length-drop k (drop a old) in
    let behind = length-drop a old in
    omega (arith, front, back, first, rest, behind)
