use Rattle.std.proofs.Common.{◌≡◌, ℕ, ◌<◌, ◌≤◌, ◌+◌, ◌-◌, ◌*◌, length, get_or, ap, sym, ◌∙◌, subst, arith, true, false, Bool, length-drop}
use Rattle.std.proofs.lemmas.List.{length-take, get_or_default}
use Rattle.workboard.specs.Tree.{IsLeading, leftmost, flag_at}
use Rattle.workboard.proofs.Trees.{leading-root, leading-inside, leading-left, leading-right, seen-at}
use Rattle.workboard.proofs.firsts.Firsts.first.Goals as goal
use Rattle.workboard.proofs.firsts.Firsts.first.Goals.{then-not-index, else-not-index}

pub loop-level-init : goal.loop-level-init
loop-level-init c = leading-root c.self.inside.marks.items c.self.inside.height c.self.inside.size c.self.inside.count
    c.self.invariant

pub overflow_mul-node : goal.overflow_mul-node
overflow_mul-node c =
    let h = leading-inside c.self.inside.marks.items c.self.inside.size c.self.inside.height c.loop-level._level
    c.loop-level.node (omega arith) c.loop-level.invariant in omega (arith, h, c.self.invariant.few)

pub index-requires : goal.index-requires
index-requires c =
    let h = leading-inside c.self.inside.marks.items c.self.inside.size c.self.inside.height c.loop-level._level
    c.loop-level.node (omega arith) c.loop-level.invariant in omega (arith, h, c.self.invariant.whole)

pub overflow_add-node : goal.overflow_add-node
overflow_add-node c =
    let h = leading-inside c.self.inside.marks.items c.self.inside.size c.self.inside.height c.loop-level._level
    c.loop-level.node (omega arith) c.loop-level.invariant in omega (arith, h, c.self.invariant.few)

pub loop-level-preserved : goal.loop-level-preserved
loop-level-preserved c =
    let is : c.index.result.now ≡ flag_at c.self.inside.marks.items (c.loop-level.node * 2) = c.index.ensures ∙
    get_or_default c.self.inside.marks.items (c.loop-level.node * 2) c.index.result.now true
    (let h = leading-inside c.self.inside.marks.items c.self.inside.size c.self.inside.height c.loop-level._level
    c.loop-level.node (omega arith) c.loop-level.invariant in omega (arith, h, c.self.invariant.whole)) in
    elim c.if-not-index.branch [
      | then-not-index w ↦ subst (IsLeading c.self.inside.marks.items c.self.inside.size (c.self.inside.height -
          (c.loop-level._level + 1))) (sym w.node-is)
          (leading-right c.self.inside.marks.items c.self.inside.size c.self.inside.height c.loop-level._level
          c.loop-level.node
          c.self.invariant.tells c.loop-level-test.true c.loop-level.invariant (sym is ∙ w.if-not-index.true))
      | else-not-index w ↦ subst (IsLeading c.self.inside.marks.items c.self.inside.size (c.self.inside.height -
          (c.loop-level._level + 1))) (sym w.node-is)
          (leading-left c.self.inside.marks.items c.self.inside.size c.self.inside.height c.loop-level._level
          c.loop-level.node
          c.loop-level-test.true c.loop-level.invariant (sym is ∙ w.if-not-index.false))
    ]

pub returns-then-at-self : goal.returns-then-at-self
returns-then-at-self c =
    let t = c.self.invariant in let i = c.loop-level.invariant in
    let last : c.self.inside.height - c.loop-level._level ≡ 0 = omega arith in
    let begins : c.self.inside.size ≤ c.loop-level.node = subst (λ d. c.self.inside.size ≤ leftmost d
    c.loop-level.node) last i.begins in
    let quiet = subst (λ d. (j : ℕ) → c.self.inside.size ≤ j → j < leftmost d c.loop-level.node → flag_at
    c.self.inside.marks.items j ≡ false) last i.silent in
    let seen : (k : ℕ) → k < c.self.inside.count → get_or c.args.self.now k false ≡ flag_at c.self.inside.marks.items
    (c.self.inside.size + k) =
    λ k lt. ap (λ v. get_or v k false) (sym c.self.view_is) ∙ seen-at c.self.inside.marks.items c.self.inside.size
    c.self.inside.count k t.whole (omega (arith, t.room)) lt in
    let back : c.self.inside.size + (c.loop-level.node - c.self.inside.size) ≡ c.loop-level.node = omega arith in (
      omega (
        arith,
        ap length c.self.view_is,
        length-take {A = Bool},
        length-drop {A = Bool},
        t.whole,
        t.room,
        c.if-at-self.true,
      ),
      seen (c.loop-level.node - c.self.inside.size) c.if-at-self.true ∙ ap (flag_at c.self.inside.marks.items) back ∙
          i.on,
      λ k lt. seen k (omega (arith, lt, c.if-at-self.true)) ∙ quiet (c.self.inside.size + k) (omega arith)
          (omega (arith, lt, begins)),
    )

pub returns-else-at-self : goal.returns-else-at-self
returns-else-at-self c = λ k lt.
    let t = c.self.invariant in let i = c.loop-level.invariant in
    let last : c.self.inside.height - c.loop-level._level ≡ 0 = omega arith in
    let quiet = subst (λ d. (j : ℕ) → c.self.inside.size ≤ j → j < leftmost d c.loop-level.node → flag_at
    c.self.inside.marks.items j ≡ false) last i.silent in
    let below : k < c.self.inside.count = omega (
      arith,
      lt,
      ap length c.self.view_is,
      length-take {A = Bool},
      length-drop {A = Bool},
      t.whole,
      t.room,
    ) in
    ap (λ v. get_or v k false) (sym c.self.view_is) ∙ seen-at c.self.inside.marks.items c.self.inside.size
    c.self.inside.count k t.whole (omega (arith, t.room)) below
    ∙ quiet (c.self.inside.size + k) (omega arith) (omega (arith, below, c.if-at-self.false, t.room))
