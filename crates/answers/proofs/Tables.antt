-- A box whose table is known.
use Rattle.std.proofs.Common.{◌≡◌, subst, sym}

-- what holds of every value behind the table that a box has holds of the box
pub at_table : {T : Type 0} {V : T → Type 0} (P : (table : T) → V table → Type 0) (known table : T) (value : V table)
    → table ≡ known → ((v : V known) → P known v) → P table value
at_table {V = V} P known table value same holds = subst (λ t. (v : V t) → P t v) (sym same) holds value
