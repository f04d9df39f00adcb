-- The first type that isn't sound is the least of those that are the first to fail one of the four tests.
use Rattle.std.proofs.Common.{◌≡◌, ℕ, zero, suc, ◌+◌, ◌<◌, ◌≤◌, ◌^◌, inl, inr, Bool, true, false, not, ◌||◌, ◌&&◌, min, List, Result, refl, sym, ◌∙◌, subst, arith}
use Rattle.std.proofs.lemmas.Bool.{cases_lt, both_ways, or_left, or_right}
use Rattle.std.proofs.lemmas.Result.{IfOk-weaker}
use Rattle.std.specs.Prelude.{IfOk}
use Rattle.graph_cycles.specs.declared.graph.Edge.{Edge}
use Rattle.graph_cycles.specs.Cycles.{leads, is_on_cycle, IsFirstOnCycle, HasNoCycle}
use Rattle.graph_cycles.proofs.Walks.{told, tells}
use Rattle.type_model.specs.Module.{Module, row_count}
use Rattle.type_model.specs.Rows.{type_defs}
use Rattle.type_model.specs.Part.{extends_edges, nesting_edges, inside_edges, has_field_sigs, is_sound_type}
use Rattle.type_model.specs.Sound.{FailsFirst, IsFirstUnsound, AllSound}

not_true : (b : Bool) → (b ≡ true → ⊥) → b ≡ false
not_true true never = absurd (never refl)
not_true false never = refl

is_false : (b : Bool) → not b ≡ true → b ≡ false
is_false true is = absurd (cc)
is_false false is = refl

is_true : (b : Bool) → not b ≡ false → b ≡ true
is_true true is = refl
is_true false is = absurd (cc)

above_zero : (edges : List Edge) (node : ℕ) → ((to : ℕ) → leads edges 0 to ≡ false) → leads edges node node ≡ true → 1 ≤ node
above_zero edges zero none is = absurd (both_ways (leads edges 0 0) (none 0) is)
above_zero edges (suc node) none is = omega arith

pub found_on : (edges : List Edge) (node n : ℕ) → IsFirstOnCycle edges node → ((to : ℕ) → leads edges 0 to ≡ false)
    → FailsFirst (λ (t : ℕ). is_on_cycle edges t) n node
found_on edges node n is none = record {
  from = above_zero edges node none (tells edges node node is.cycle);
  before = λ t above lower. not_true (leads edges t t) (λ on. is.first t lower (told edges t t on));
  here = λ within. tells edges node node is.cycle;
}

pub none_on : (edges : List Edge) (n : ℕ) → HasNoCycle edges → n < 2 ^ 31
    → FailsFirst (λ (t : ℕ). is_on_cycle edges t) n 4294967295
none_on edges n none few = record {
  from = omega arith;
  before = λ t above lower. not_true (leads edges t t) (λ on. none t (told edges t t on));
  here = λ within. absurd (omega arith);
}

-- what is said of the edges of a list is said of those that the list is
pub first_among : {E : Type 0} (r : Result ℕ E) (edges known : List Edge) (n : ℕ) → edges ≡ known → n < 2 ^ 31
    → IfOk r (λ (at : ℕ). (k : ℕ) → k < 2 ^ 31 → FailsFirst (λ (t : ℕ). is_on_cycle edges t) k at)
    → IfOk r (λ (at : ℕ). FailsFirst (λ (t : ℕ). is_on_cycle known t) n at)
first_among r edges known n same few =
    IfOk-weaker r (λ (at : ℕ). (k : ℕ) → k < 2 ^ 31 → FailsFirst (λ (t : ℕ). is_on_cycle edges t) k at)
    (λ (at : ℕ). FailsFirst (λ (t : ℕ). is_on_cycle known t) n at)
    (λ at fails. subst (λ (es : List Edge). FailsFirst (λ (t : ℕ). is_on_cycle es t) n at) same (fails n few))

-- one more number at which a test doesn't fail
pub one_more_passes : (has : ℕ → Bool) (t : ℕ) → ((k : ℕ) → 1 ≤ k → k < t → not (has k) ≡ false) → has t ≡ true
    → (k : ℕ) → 1 ≤ k → k < t + 1 → not (has k) ≡ false
one_more_passes has t before is k above below =
    elim (cases_lt k t) [
      | inl lower ↦ before k above lower
      | inr past ↦ (let same : k ≡ t = omega arith in rw (same, is) refl)
    ]

-- the test fails at this number
pub fails_at : (has : ℕ → Bool) (n t : ℕ) → 1 ≤ t → ((k : ℕ) → 1 ≤ k → k < t → not (has k) ≡ false) → has t ≡ false
    → FailsFirst (λ (k : ℕ). not (has k)) n t
fails_at has n t above before is = record { from = above; before = before; here = λ within. rw is refl }

-- it fails at none
pub fails_nowhere : (has : ℕ → Bool) (n t : ℕ) → n < t → ((k : ℕ) → 1 ≤ k → k < t → not (has k) ≡ false)
    → FailsFirst (λ (k : ℕ). not (has k)) n t
fails_nowhere has n t past before = record { from = omega arith; before = before; here = λ within. absurd (omega arith) }

least : (f g : ℕ → Bool) (n a b : ℕ) → FailsFirst f n a → FailsFirst g n b → FailsFirst (λ (t : ℕ). f t || g t) n (min a b)
least f g n a b first second =
    let first_from = first.from in
    let second_from = second.from in
    record {
      from = omega (arith, first_from, second_from);
      before = λ t above lower.
          let one : f t ≡ false = first.before t above (omega arith) in
          let other : g t ≡ false = second.before t above (omega arith) in
          rw (one, other) refl;
      here = λ within.
          elim (cases_lt b a) [
            | inl lower ↦
                let is : min a b ≡ b = omega arith in
                rw is (or_right (f b) (g b) (second.here (omega arith)))
            | inr above ↦
                let is : min a b ≡ a = omega arith in
                rw is (or_left (f a) (g a) (first.here (omega arith)))
          ];
    }

fails_one : (e n i h : Bool) → (e || n || i || not h) ≡ not (not e && not n && not i && h)
fails_one true n i h = refl
fails_one false true i h = refl
fails_one false false true h = refl
fails_one false false false h = refl

pub least_of_four : (m : Module) (a b c d : ℕ)
    → FailsFirst (λ (t : ℕ). is_on_cycle (extends_edges m) t) (row_count m type_defs) a
    → FailsFirst (λ (t : ℕ). is_on_cycle (nesting_edges m) t) (row_count m type_defs) b
    → FailsFirst (λ (t : ℕ). is_on_cycle (inside_edges m) t) (row_count m type_defs) c
    → FailsFirst (λ (t : ℕ). not (has_field_sigs m t)) (row_count m type_defs) d
    → FailsFirst (λ (t : ℕ). not (is_sound_type m t)) (row_count m type_defs) (min (min (min a b) c) d)
unfolding is_sound_type
least_of_four m a b c d extending nested inside without =
    let n : ℕ = row_count m type_defs in
    let two : FailsFirst (λ (t : ℕ). leads (extends_edges m) t t || leads (nesting_edges m) t t) n (min a b) =
    least (λ (t : ℕ). leads (extends_edges m) t t) (λ (t : ℕ). leads (nesting_edges m) t t) n a b extending nested in
    let three : FailsFirst (λ (t : ℕ). leads (extends_edges m) t t || leads (nesting_edges m) t t || leads (inside_edges m) t t) n (min (min a b) c) =
    least (λ (t : ℕ). leads (extends_edges m) t t || leads (nesting_edges m) t t) (λ (t : ℕ). leads (inside_edges m) t t) n (min a b) c two inside in
    let four = least (λ (t : ℕ). leads (extends_edges m) t t || leads (nesting_edges m) t t || leads (inside_edges m) t t) (λ (t : ℕ). not (has_field_sigs m t)) n (min (min a b) c) d three without in
    let same : (t : ℕ) → (leads (extends_edges m) t t || leads (nesting_edges m) t t || leads (inside_edges m) t t || not (has_field_sigs m t)) ≡ not (is_sound_type m t) =
    λ t. fails_one (leads (extends_edges m) t t) (leads (nesting_edges m) t t) (leads (inside_edges m) t t) (has_field_sigs m t) in
    record {
      from = four.from;
      before = λ t above lower. sym (same t) ∙ four.before t above lower;
      here = λ within. sym (same (min (min (min a b) c) d)) ∙ four.here within;
    }

pub unsound_here : (m : Module) (at : ℕ) → FailsFirst (λ (t : ℕ). not (is_sound_type m t)) (row_count m type_defs) at
    → at ≤ row_count m type_defs → IsFirstUnsound m at
unsound_here m at fails within = record {
  exists = fails.from;
  within = within;
  unsound = is_false (is_sound_type m at) (fails.here within);
  before = λ t above lower. is_true (is_sound_type m t) (fails.before t above lower);
}

pub all_sound : (m : Module) (at : ℕ) → FailsFirst (λ (t : ℕ). not (is_sound_type m t)) (row_count m type_defs) at
    → row_count m type_defs < at → AllSound m
all_sound m at fails past t above within = is_true (is_sound_type m t) (fails.before t above (omega arith))
