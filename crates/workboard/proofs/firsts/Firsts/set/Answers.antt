use Rattle.std.proofs.Common.{◌≡◌, length, take, drop, set, ap, ◌∙◌, arith, Bool, length-drop}
use Rattle.std.proofs.lemmas.List.{length-take}
use Rattle.workboard.proofs.Trees.{leaf-set}
use Rattle.workboard.proofs.firsts.Firsts.set.Goals as goal

pub returns : goal.returns
returns c =
    let i = c.loop-node.invariant in
    let shown : length (take c.self.inside.count (drop c.self.inside.size c.self.inside.marks.items)) ≡
    c.self.inside.count =
    omega (arith, length-take {A = Bool}, length-drop {A = Bool}, c.self.invariant.whole, c.self.invariant.room) in
    let done = leaf-set c.self.inside.marks.items c.loop-node.self-inside.marks.items c.self.inside.size
    c.self.inside.count c.args.at c.args.flag
    c.self.invariant.whole (omega (arith, i.whole, i.same_size)) c.self.invariant.room
    (omega (arith, shown, ap length c.self.view_is, c.requires)) (λ j from. i.leaves j
    (omega (arith, from, i.same_size))) in
    ap (λ n. take n (drop c.loop-node.self-inside.size c.loop-node.self-inside.marks.items)) i.same_count
    ∙ ap (λ n. take c.self.inside.count (drop n c.loop-node.self-inside.marks.items)) i.same_size
    ∙ done ∙ ap (λ v. set v c.args.at c.args.flag) c.self.view_is
