-- Texts that are added one after another are added as one.
use Rattle.std.proofs.Common.{◌≡◌, ◌≢◌, ◌⊎◌, inl, inr, ℕ, ◌+◌, ◌-◌, ◌≤◌, IsTrue, List, [], ◌++◌, length, take, drop, Option, None, Some, Result, Ok, Err, OnOk, OnErr, refl, sym, ap, subst, ◌∙◌, arith, append_assoc, append-nil}
use Rattle.std.specs.Prelude.{⊤, IsErrAnd}
use Rattle.std.proofs.lemmas.List.{take-take, drop-drop, length-append}
use Rattle.work_terms.specs.Disk.{Changes, Elapses, Files, Follows, HasTornEnd, HasWritten, IsAppended, IsBeside, IsGrown, IsTornBehind, LeavesOnly, LeavesOthers, OfFile, end_of}
use Rattle.devices.specs.Frame.{Appends, MayBeTorn, OnlyWrites}
use Rattle.devices.specs.declared.bench.Bench.{Ghosts}
use Rattle.devices.specs.declared.fault.DeviceFault.{DeviceFault}

shorter : (i j : ℕ) (x y : List ℕ) → i ≤ j → take j x ≡ take j y → take i x ≡ take i y
shorter i j x y few same = sym (take-take i j x few) ∙ ap (take i) same ∙ take-take i j y few

further : (i j : ℕ) (x y : List ℕ) → i ≤ j → drop i x ≡ drop i y → drop j x ≡ drop j y
further i j x y few same =
    let all : i + (j - i) ≡ j = omega (arith, few) in
    ap (λ n. drop n x) (sym all) ∙ sym (drop-drop (j - i) i x) ∙ ap (drop (j - i)) same ∙ drop-drop (j - i) i y
    ∙ ap (λ n. drop n y) all

torn_again :
    (at n later more all : ℕ) (a b c : List ℕ) → at ≤ later → n ≤ all → later + more ≤ at + all
    → HasTornEnd at n a b → HasTornEnd later more b c → HasTornEnd at all a c
torn_again at n later more all a b c le few inside one other = record {
  before = shorter at later c b le other.before ∙ one.before;
  after = further (later + more) (at + all) c b inside other.after
      ∙ further (at + n) (at + all) b a (omega (arith, few)) one.after;
  no_shorter = omega (arith, one.no_shorter, other.no_shorter);
  no_longer = omega (arith, one.no_longer, other.no_longer, few, inside);
}

torn_files :
    (at n later more all : ℕ) (x y z : Option (List ℕ)) → at ≤ later → n ≤ all → later + more ≤ at + all
    → IsTornBehind at n x y → IsTornBehind later more y z → IsTornBehind at all x z
torn_files at n later more all None y z le few inside one other =
    subst (λ f. IsTornBehind later more f z) one other
torn_files at n later more all (Some a) y z le few inside (b, is, one) other =
    let (c, so, two) = subst (λ f. IsTornBehind later more f z) is other in
    (c, so, torn_again at n later more all a b c le few inside one two)

torn_wider :
    (at n all : ℕ) (x y : Option (List ℕ)) → n ≤ all → IsTornBehind at n x y → IsTornBehind at all x y
torn_wider at n all None y few torn = torn
torn_wider at n all (Some a) y few (b, is, one) = (
  b,
  is,
  record {
    before = one.before;
    after = further (at + n) (at + all) b a (omega (arith, few)) one.after;
    no_shorter = one.no_shorter;
    no_longer = omega (arith, one.no_longer, few);
  },
)

untorn : (at n : ℕ) (x : Option (List ℕ)) → IsTornBehind at n x x
untorn at n None = refl
untorn at n (Some a) =
    (a, refl, record { before = refl; after = refl; no_shorter = omega arith; no_longer = omega arith })

-- where the text ends
ends_behind :
    (text : List ℕ) (x y : Option (List ℕ)) → OfFile (λ before after. after ≡ before ++ text) x y
    → (end_of x ≤ end_of y) × (end_of y ≤ end_of x + length text)
ends_behind text None y is = rw is (omega arith, omega arith)
ends_behind text (Some a) y (b, is, so) =
    let long : length b ≡ length a + length text = ap length so ∙ length-append a text in
    rw is (omega (arith, long), omega (arith, long))

grown_wider : (n all : ℕ) (x y : Option (List ℕ)) → n ≤ all → IsGrown n x y → IsGrown all x y
grown_wider n all None y few grown = grown
grown_wider n all (Some a) y few (b, is, (more, short, so)) =
    (b, is, (more, omega (arith, few, short), so))

-- behind a text that is there
appended_again :
    (front more : List ℕ) (x y z : Option (List ℕ)) → OfFile (λ before after. after ≡ before ++ front) x y
    → OfFile (λ before after. after ≡ before ++ more) y z → OfFile (λ before after. after ≡ before ++ (front ++ more)) x z
appended_again front more None y z one other =
    subst (λ f. OfFile (λ before after. after ≡ before ++ more) f z) one other
appended_again front more (Some a) y z (b, is, so) other =
    let (c, here, then) = subst (λ f. OfFile (λ before after. after ≡ before ++ more) f z) is other in
    (c, here, then ∙ ap (λ t. t ++ more) so ∙ append_assoc a front more)

grown_again :
    (front : List ℕ) (n : ℕ) (x y z : Option (List ℕ)) → OfFile (λ before after. after ≡ before ++ front) x y
    → IsGrown n y z → IsGrown (length front + n) x z
grown_again front n None y z one other = subst (λ f. IsGrown n f z) one other
grown_again front n (Some a) y z (b, is, so) other =
    let (c, here, (more, few, then)) = subst (λ f. IsGrown n f z) is other in (
      c,
      here,
      (
        front ++ more,
        rw (length-append front more) (omega (arith, few)),
        then ∙ ap (λ t. t ++ more) so ∙ append_assoc a front more,
      ),
    )

-- what stands in a file that is there
pub added_to : {X E : Type 0} (result : Result X E) (old new : Option (List ℕ)) (front text : List ℕ) → old ≡ Some front
    → OnOk result (OfFile (λ before after. after ≡ before ++ text) old new) → OnOk result (new ≡ Some (front ++ text))
added_to (Ok x) old new front text there is =
    let (file, here, so) = subst (λ f. OfFile (λ before after. after ≡ before ++ text) f new) there is in
    here ∙ ap Some so
added_to (Err e) old new front text there is = tt

module _ {B : Type 0} (bench : Ghosts B) (name : List ℕ) where
  wrote_again :
      {fault failed quiet device there : Type 0} (old mid new : B) (stays : List ℕ → Type 0)
      → HasWritten bench.stored bench.honest bench.failures bench.failed_at bench.may_leave stays old mid ⊤ fault failed
      → HasWritten bench.stored bench.honest bench.failures bench.failed_at bench.may_leave stays mid new quiet device
      there
      → HasWritten bench.stored bench.honest bench.failures bench.failed_at bench.may_leave stays old new quiet device
      there
  wrote_again old mid new stays one other = record {
    others = λ honest n stay. other.others (rw one.honest_same honest) n stay ∙ one.others honest n stay;
    durable = λ honest n stay d. other.durable (rw one.honest_same honest) n stay (one.durable honest n stay d);
    honest_same = other.honest_same ∙ one.honest_same;
    cause = record {
      later = omega (arith, one.cause.later, other.cause.later);
      left = λ q. other.cause.left q ∙ one.cause.left tt;
      rose = λ d below.
          let same = one.cause.left tt in
          let rose = other.cause.rose d (omega (arith, same, below)) in omega (arith, same, rose);
    };
    keeps = λ n f. other.keeps n (one.keeps n f);
    failed_there = other.failed_there;
  }

  torn_after :
      (a b : List ℕ) (old mid : B) (u : ⊤) → Appends bench name a old mid (Ok u)
      → (c : Files) → MayBeTorn bench name b mid c → MayBeTorn bench name (a ++ b) old c
  torn_after a b old mid u one c (d, left, torn) =
      let (e, before, first) = one.crash d left in (
        e,
        before,
        record {
          here = λ honest.
              let (le, few) = ends_behind a (bench.stored old name) (bench.stored mid name) (one.appended honest) in
              let long = length-append a b in
              torn_files (end_of (bench.stored old name)) (length a) (end_of (bench.stored mid name)) (length b)
              (length (a ++ b)) (e name) (d name) (c name) le (omega (arith, long)) (omega (arith, long, few))
              (first.here honest) (torn.here (rw one.only_writes.honest_same honest));
          others = λ n no. torn.others n no ∙ first.others n no;
        },
      )

  torn_longer :
      (a b : List ℕ) (old : B) (c : Files) → MayBeTorn bench name a old c → MayBeTorn bench name (a ++ b) old c
  torn_longer a b old c (d, left, torn) = (
    d,
    left,
    record {
      here = λ honest. torn_wider (end_of (bench.stored old name)) (length a) (length (a ++ b)) (d name) (c name)
          (omega (arith, length-append a b)) (torn.here honest);
      others = torn.others;
    },
  )

  appended_or_not :
      (a b : List ℕ) (old mid new : B) (result : Result ⊤ DeviceFault)
      → OfFile (λ before after. after ≡ before ++ a) (bench.stored old name) (bench.stored mid name)
      → OnOk result (OfFile (λ before after. after ≡ before ++ b) (bench.stored mid name) (bench.stored new name))
      → OnOk result (OfFile (λ before after. after ≡ before ++ (a ++ b)) (bench.stored old name) (bench.stored new name))
  appended_or_not a b old mid new (Ok x) one other =
      appended_again a b (bench.stored old name) (bench.stored mid name) (bench.stored new name) one other
  appended_or_not a b old mid new (Err e) one other = tt

  grown_or_not :
      (a b : List ℕ) (old mid new : B) (result : Result ⊤ DeviceFault)
      → OfFile (λ before after. after ≡ before ++ a) (bench.stored old name) (bench.stored mid name)
      → OnErr result (IsGrown (length b) (bench.stored mid name) (bench.stored new name))
      → OnErr result (IsGrown (length (a ++ b)) (bench.stored old name) (bench.stored new name))
  grown_or_not a b old mid new (Ok x) one other = tt
  grown_or_not a b old mid new (Err e) one other =
      subst (λ n. IsGrown n (bench.stored old name) (bench.stored new name)) (sym (length-append a b))
      (grown_again a (length b) (bench.stored old name) (bench.stored mid name) (bench.stored new name) one other)

  module _ (a b : List ℕ) (old : B) where
    moments_after :
        (mid new : B) (u : ⊤) → Appends bench name a old mid (Ok u)
        → LeavesOnly bench.moment bench.left_since mid new (MayBeTorn bench name b mid)
        → LeavesOnly bench.moment bench.left_since old new (MayBeTorn bench name (a ++ b) old)
    moments_after mid new u one other = record {
      later = omega (arith, one.moments.later, other.later);
      each = λ c since. each c (other.before (bench.moment old) c one.moments.later since);
      before = λ t c early since. earlier t c early (other.before t c (omega (arith, early, one.moments.later)) since);
    } where
      each : (c : Files) → bench.left_since mid (bench.moment old) c ⊎ MayBeTorn bench name b mid c
          → MayBeTorn bench name (a ++ b) old c
      each c (inl since) = torn_longer a b old c (one.moments.each c since)
      each c (inr torn) = torn_after a b old mid u one c torn

      first : (t : ℕ) (c : Files) → bench.left_since old t c ⊎ MayBeTorn bench name a old c
          → bench.left_since old t c ⊎ MayBeTorn bench name (a ++ b) old c
      first t c (inl since) = inl since
      first t c (inr torn) = inr (torn_longer a b old c torn)

      earlier : (t : ℕ) (c : Files) → t ≤ bench.moment old
          → bench.left_since mid t c ⊎ MayBeTorn bench name b mid c
          → bench.left_since old t c ⊎ MayBeTorn bench name (a ++ b) old c
      earlier t c early (inl since) = first t c (one.moments.before t c early since)
      earlier t c early (inr torn) = inr (torn_after a b old mid u one c torn)

    moments_longer :
        (new : B) → LeavesOnly bench.moment bench.left_since old new (MayBeTorn bench name a old)
        → LeavesOnly bench.moment bench.left_since old new (MayBeTorn bench name (a ++ b) old)
    moments_longer new one = record {
      later = one.later;
      each = λ c since. torn_longer a b old c (one.each c since);
      before = λ t c early since. widened t c (one.before t c early since);
    } where
      widened : (t : ℕ) (c : Files) → bench.left_since old t c ⊎ MayBeTorn bench name a old c
          → bench.left_since old t c ⊎ MayBeTorn bench name (a ++ b) old c
      widened t c (inl since) = inl since
      widened t c (inr torn) = inr (torn_longer a b old c torn)

  -- this text and then another
  pub and_then :
      {a b : List ℕ} {old mid new : B} {u : ⊤} {result : Result ⊤ DeviceFault}
      → Appends bench name a old mid (Ok u)
      → Appends bench name b mid new result → Appends bench name (a ++ b) old new result
  and_then {a} {b} {old} {mid} {new} {u} {result} one other = record {
    appended = λ honest. appended_or_not a b old mid new result (one.appended honest)
        (other.appended (rw one.only_writes.honest_same honest));
    unfinished = λ honest. grown_or_not a b old mid new result (one.appended honest)
        (other.unfinished (rw one.only_writes.honest_same honest));
    crash = λ c left. torn_after a b old mid u one c (other.crash c left);
    moments = moments_after a b old mid new u one other.moments;
    only_writes = wrote_again old mid new (λ n. n ≢ name) one.only_writes other.only_writes;
  }

  -- a text that ends early, with what should have come behind it
  pub stopped :
      {a : List ℕ} (P : DeviceFault → Type 0) (b : List ℕ) {old new : B} {e : DeviceFault}
      (result : Result ⊤ DeviceFault) → IsErrAnd result P → Appends bench name a old new (Err e) → Appends bench name (a ++ b) old new result
  stopped P b (Ok u) is one = absurd is
  stopped {a} P b {old} {new} {e} (Err other) is one = record {
    appended = λ honest. tt;
    unfinished = λ honest. grown_wider (length a) (length (a ++ b)) (bench.stored old name) (bench.stored new name)
        (omega (arith, length-append a b)) (one.unfinished honest);
    crash = λ c left. torn_longer a b old c (one.crash c left);
    moments = moments_longer a b old new one.moments;
    only_writes = one.only_writes;
  }

  -- the same text in other words
  pub said :
      {a b : List ℕ} {old new : B} {result : Result ⊤ DeviceFault} → a ≡ b → Appends bench name a old new result
      → Appends bench name b old new result
  said {a} {b} {old} {new} {result} same one = subst (λ t. Appends bench name t old new result) same one

  -- no text
  pub nothing :
      (old : B) (u : ⊤) → ((c : Files) → bench.left_since old (bench.moment old) c → bench.may_leave old c)
      → Appends bench name [] old old (Ok u)
  nothing old u only_now = record {
    appended = λ honest. unchanged (bench.stored old name);
    unfinished = λ honest. tt;
    crash = λ c left. as_it_was c left;
    moments = record {
      later = omega arith;
      each = λ c since. as_it_was c (only_now c since);
      before = λ t c early since. inl since;
    };
    only_writes = record {
      others = λ honest n stay. refl;
      durable = λ honest n stay d. d;
      honest_same = refl;
      cause = record { later = omega arith; left = λ q. refl; rose = λ no below. absurd no };
      keeps = λ n f. f;
      failed_there = tt;
    };
  } where
    unchanged : (x : Option (List ℕ)) → OfFile (λ before after. after ≡ before ++ []) x x
    unchanged None = refl
    unchanged (Some a) = (a, refl, sym (append-nil a))

    as_it_was : (c : Files) → bench.may_leave old c → MayBeTorn bench name [] old c
    as_it_was c left = (
      c,
      left,
      record {
        here = λ honest. untorn (end_of (bench.stored old name)) 0 (c name);
        others = λ n no. refl;
      },
    )

  -- by one call
  pub at_once :
      (text : List ℕ) (old new : B) (result : Result ⊤ DeviceFault)
      → ((c : Files) → bench.left_since old (bench.moment old) c → bench.may_leave old c)
      → (IsTrue (bench.honest old)
      → OnOk result (Changes (IsAppended text) name (bench.stored old) (bench.stored new)))
      → (IsTrue (bench.honest old)
      → OnErr result (Changes (IsGrown (length text)) name (bench.stored old) (bench.stored new)))
      → Follows (Changes (IsTornBehind (end_of (bench.stored old name)) (length text)) name) (bench.may_leave old)
      (bench.may_leave new)
      → Elapses (bench.moment old) (bench.moment new) (bench.left_since old) (bench.left_since new)
      (bench.may_leave new)
      → OnlyWrites bench (λ n. n ≢ name) old new result (λ _. ⊤) (λ _ failed. failed name)
      → Appends bench name text old new result
  at_once text old new result only_now appended grown crash time only_writes = record {
    appended = λ honest. there result (appended honest);
    unfinished = λ honest. some result (grown honest);
    crash = torn;
    moments = record {
      later = time.later;
      each = λ c since. each c (time.nothing_else (bench.moment old) c (omega arith) since);
      before = λ t c early since. before t c (time.nothing_else t c early since);
    };
    only_writes = only_writes;
  } where
    there : (r : Result ⊤ DeviceFault) → OnOk r (Changes (IsAppended text) name (bench.stored old) (bench.stored new))
        → OnOk r (OfFile (λ before after. after ≡ before ++ text) (bench.stored old name) (bench.stored new name))
    there (Ok x) is = rw is.here.there (is.here.file ++ text, is.here.appended, refl)
    there (Err e) is = tt

    some : (r : Result ⊤ DeviceFault) → OnErr r (Changes (IsGrown (length text)) name (bench.stored old) (bench.stored new))
        → OnErr r (IsGrown (length text) (bench.stored old name) (bench.stored new name))
    some (Ok x) is = tt
    some (Err e) is = is.here

    torn : (c : Files) → bench.may_leave new c → MayBeTorn bench name text old c
    torn c left = let (d, was, change) = crash c left in
        (d, was, record { here = λ honest. change.here; others = change.others })

    as_it_was : (c : Files) → bench.may_leave old c → MayBeTorn bench name text old c
    as_it_was c left = (
      c,
      left,
      record {
        here = λ honest. untorn (end_of (bench.stored old name)) (length text) (c name);
        others = λ n no. refl;
      },
    )

    each : (c : Files) → bench.left_since old (bench.moment old) c ⊎ bench.may_leave new c
        → MayBeTorn bench name text old c
    each c (inl since) = as_it_was c (only_now c since)
    each c (inr left) = torn c left

    before : (t : ℕ) (c : Files) → bench.left_since old t c ⊎ bench.may_leave new c
        → bench.left_since old t c ⊎ MayBeTorn bench name text old c
    before t c (inl since) = inl since
    before t c (inr left) = inr (torn c left)

  -- every other file is left alone
  pub leaves_others :
      (text : List ℕ) (old new : B) (result : Result ⊤ DeviceFault) → Appends bench name text old new result
      → LeavesOthers bench.may_leave bench.moment bench.left_since name old new
  leaves_others text old new result one = record {
    now = λ c left. others c (one.crash c left);
    moments = record {
      later = one.moments.later;
      each = λ c since. others c (one.moments.each c since);
      before = λ t c early since. elim (one.moments.before t c early since) [
        | inl past ↦ inl past
        | inr torn ↦ inr (others c torn)
      ];
    };
  } where
    others : (c : Files) → MayBeTorn bench name text old c → IsBeside (bench.may_leave old) name c
    others c (d, was, torn) = (d, was, λ n away. torn.others n (λ same. away (0, omega arith, sym same)))
