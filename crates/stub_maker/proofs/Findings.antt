-- What is found of a file's types: it stays right, and once nothing more is found it is all that is known.
use Rattle.std.proofs.Common.{◌≡◌, ◌≢◌, ℕ, zero, suc, ◌+◌, ◌≤◌, ◌<◌, Bool, true, false, cond, List, [], ◌∷◌, length, get_or, set, Option, Some, None, slice_get, unwrap_or, IfSome, is_some, is_ok, nat_eq, nat_le, nat_lt, ◌&&◌, replicate, ◌-◌, if◌then◌else◌, ◌⊎◌, inl, inr, arith, refl, sym, ◌∙◌, ap, subst, get_or-set_same, get_or-set_other}
use Rattle.std.specs.Option.{option_and_then}
use Rattle.std.specs.List.{count_by}
use Rattle.std.proofs.lemmas.List.Sums.{count_by-le-length, sum_by-cons}
use Rattle.std.proofs.lemmas.Bool.Decides.{nat_tests}
use Rattle.std.proofs.lemmas.List.{length-replicate, length-set}
use Rattle.std.proofs.lemmas.Option.{unwrap_or-slice_get}
use Rattle.native_layout.specs.declared.outlines.Outline.{Outline}
use Rattle.native_layout.specs.declared.shapes.Shape.{Struct}
use Rattle.native_layout.specs.declared.shapes.StructShape.{StructShape}
use Rattle.native_layout.specs.Outlines.{IsSound, outline}
use Rattle.stub_maker.specs.declared.finding.Finding.{Finding}
use Rattle.stub_maker.specs.declared.finding.Finding.TheVariants.{Callable, Outlined}
use Rattle.stub_maker.specs.Shapes.{Known}
use Rattle.type_model.specs.Module.{Module, row_count}
use Rattle.type_model.specs.Rows as Rows
use Rattle.type_model.specs.TypeIds.{is_row, row_limit}
use Rattle.stub_maker.specs.Callbacks.{back_of}
use Rattle.stub_maker.specs.Facts.{TypeFacts, known, known_after, struct_shape}
use Rattle.stub_maker.specs.Described.{facts_of, invoke_signature, known_of, struct_facts}
use Rattle.stub_maker.specs.Learned.{Agree, IsClosedAt, IsNew, IsRight, Learned, room, with_finding, callable_at, followed, known_so_far, known_then, met, outline_at, outline_of}

-- ---- lists of findings

abbrev one_if : {X : Type 0} → (X → Bool) → X → ℕ
one_if p y = cond (p y) 1 0

abbrev one : ℕ
one = 1

abbrev nothing : ℕ
nothing = 0

count_set : {X : Type 0} (p : X → Bool) (xs : List X) (i : ℕ) (v d : X) → i < length xs → p (get_or xs i d) ≡ false → p v ≡ true
    → count_by p (set xs i v) ≡ count_by p xs + 1
count_set p [] i v d within was is = absurd (omega arith)
count_set p (x ∷ xs) zero v d within was is =
    let before = sum_by-cons (one_if p) x xs in
    let after = sum_by-cons (one_if p) v xs in
    let none : one_if p x ≡ 0 = ap (λ (b : Bool). cond b one nothing) was in
    let more : one_if p v ≡ 1 = ap (λ (b : Bool). cond b one nothing) is in
    omega (arith, before, after, none, more)
count_set p (x ∷ xs) (suc i) v d within was is =
    let before = sum_by-cons (one_if p) x xs in
    let after = sum_by-cons (one_if p) x (set xs i v) in
    let rest = count_set p xs i v d (omega arith) was is in
    omega (arith, before, after, rest)

-- a count that the first element has no part in
count_rest : {X : Type 0} (p : X → Bool) (xs : List X) (d : X) → 1 ≤ length xs → p (get_or xs 0 d) ≡ false → count_by p xs + 1 ≤ length xs
count_rest p [] d some was = absurd (omega arith)
count_rest p (x ∷ xs) d some was =
    let before = sum_by-cons (one_if p) x xs in
    let none : one_if p x ≡ 0 = ap (λ (b : Bool). cond b one nothing) was in
    omega (arith, before, none, count_by-le-length p xs)

some_same : {A : Type 0} (a b : A) → Some a ≡ Some b → a ≡ b
some_same a b is = cc

true_or_not : (b : Bool) → (b ≡ true) ⊎ (b ≡ false)
true_or_not true = inl refl
true_or_not false = inr refl

-- ---- one state of knowledge within another

pub record Within (a b : Known) : Type 0 where
  pub structs : (t : ℕ) (s : StructShape) → a.struct_of t ≡ Some s → b.struct_of t ≡ Some s
  pub callable : (t : ℕ) → a.is_callable t ≡ true → b.is_callable t ≡ true

within_more : (a b c : Known) → Within a b → Within b c → Within a c
within_more a b c ab bc = record {
  structs = λ t s is. bc.structs t s (ab.structs t s is);
  callable = λ t is. bc.callable t (ab.callable t is);
}

option_same : {A : Type 0} (a b : Option A) → ((s : A) → a ≡ Some s → b ≡ Some s) → ((s : A) → b ≡ Some s → a ≡ Some s) → a ≡ b
option_same None None to from = refl
option_same None (Some y) to from = from y refl
option_same (Some x) b to from = sym (to x refl)

bool_same : (a b : Bool) → (a ≡ true → b ≡ true) → (b ≡ true → a ≡ true) → a ≡ b
bool_same true b to from = sym (to refl)
bool_same false true to from = from refl
bool_same false false to from = refl

-- following needs from more gives more
abbrev pub Rises : TypeFacts → Type 0
Rises facts = (a b : Known) → Within a b → Within (followed facts a) (followed facts b)

pub after_next : (facts : TypeFacts) → Rises facts → (n : ℕ) → Within (known_after facts n) (known_after facts (suc n))
unfolding known_after
after_next facts rises zero = record { structs = λ t s is. absurd (cc); callable = λ t is. absurd (cc) }
after_next facts rises (suc n) = rises (known_after facts n) (known_after facts (suc n)) (after_next facts rises n)

after_same : (facts : TypeFacts) (n k : ℕ) → n ≡ k → Within (known_after facts n) (known_after facts k)
after_same facts n k is = record {
  structs = λ t s at. subst (λ (j : ℕ). (known_after facts j).struct_of t ≡ Some s) is at;
  callable = λ t at. subst (λ (j : ℕ). (known_after facts j).is_callable t ≡ true) is at;
}

after_plus : (facts : TypeFacts) → Rises facts → (n d : ℕ) → Within (known_after facts n) (known_after facts (d + n))
after_plus facts rises n zero = after_same facts n (0 + n) (omega arith)
after_plus facts rises n (suc d) =
    within_more _ _ _ (after_plus facts rises n d)
    (within_more _ _ _ (after_next facts rises (d + n)) (after_same facts (suc (d + n)) (suc d + n) (omega arith)))

after_more : (facts : TypeFacts) → Rises facts → (n k : ℕ) → n ≤ k → Within (known_after facts n) (known_after facts k)
after_more facts rises n k below = within_more _ _ _ (after_plus facts rises n (k - n)) (after_same facts ((k - n) + n) k (omega arith))

after_followed : (facts : TypeFacts) (n : ℕ) → Within (known_after facts (suc n)) (followed facts (known_after facts n))
unfolding known_after
after_followed facts n = record { structs = λ t s is. is; callable = λ t is. is }

after_step : (facts : TypeFacts) (n k : ℕ) → k ≡ suc n → Within (followed facts (known_after facts n)) (known_after facts k)
unfolding known_after
after_step facts n k is = after_same facts (suc n) k (sym is)

nothing_within : (facts : TypeFacts) (b : Known) → Within (known_after facts 0) b
unfolding known_after
nothing_within facts b = record { structs = λ t s is. absurd (cc); callable = λ t is. absurd (cc) }

-- ---- what has been found is within what is known

if_some : {A : Type 0} (b : Bool) (x : Option A) (s : A) → (if b then x else None) ≡ Some s → x ≡ Some s
if_some true x s is = is
if_some false x s is = absurd (cc)

pub so_far_within : (l : Learned) → IsRight l → Within (known_so_far l) (known_then l)
unfolding known_so_far
so_far_within l right = record {
  structs = λ t s is. if_some (is_some (outline_at l t)) ((known_then l).struct_of t) s is;
  callable = λ t is. right.callable t is;
}

shape_found : (x : Option StructShape) (o : Outline) → outline_of x ≡ Some o → (s : StructShape) × (x ≡ Some s) × (Some (outline (Struct s)) ≡ Some o)
shape_found None o is = absurd (cc)
shape_found (Some s) o is = (s, refl, is)

outline_more : (x y : Option StructShape) (o : Outline) → ((s : StructShape) → x ≡ Some s → y ≡ Some s) → outline_of x ≡ Some o → outline_of y ≡ Some o
outline_more x y o to is =
    let found = shape_found x o is in
    ap outline_of (to found.0 found.1) ∙ found.2

-- ---- a finding more

same_or_not : (a b : ℕ) → (a ≡ b) ⊎ (a ≢ b)
same_or_not a b = elim (nat_eq a b) as (λ v. nat_eq a b ≡ v → (a ≡ b) ⊎ (a ≢ b)) [
  | true ↦ λ h. inl (grind (arith, nat_tests))
  | false ↦ λ h. inr (grind (arith, nat_tests))
] refl

none_is : {A : Type 0} (x : Option A) → x ≡ None → is_some x ≡ false
none_is x is = ap is_some is

met_outline : (l : Learned) (t : ℕ) (o : Outline) → t < length l.outlines → outline_at l t ≡ None
    → met (record l { outlines = set l.outlines t (Some o) }) ≡ met l + 1
met_outline l t o within none =
    let more = count_set is_some l.outlines t (Some o) None within (none_is _ none) refl in
    omega (arith, more)

pub put_outline : (l : Learned) → Rises (facts_of l.image) → IsRight l → (t : ℕ) (o : Outline) → t < length l.outlines → outline_at l t ≡ None
    → outline_of ((followed (facts_of l.image) (known_so_far l)).struct_of t) ≡ Some o → IsSound o → IsRight (record l { outlines = set l.outlines t (Some o) })
put_outline l rises right t o within none found sound =
    let facts : TypeFacts = facts_of l.image in
    let l' : Learned = record l { outlines = set l.outlines t (Some o) } in
    let one : met l' ≡ suc (met l) = met_outline l t o within none ∙ omega arith in
    let more : Within (known_then l) (known_then l') = after_more facts rises (met l) (met l') (omega arith) in
    let next : Within (followed facts (known_so_far l)) (known_then l') =
    within_more _ _ _ (rises _ _ (so_far_within l right)) (after_step facts (met l) (met l') one) in
    record {
      many = length-set l.outlines t (Some o) ∙ right.many;
      many_callable = right.many_callable;
      outlines = λ j p at. elim (same_or_not j t) [
        | inl same ↦
            let at' : outline_at l' j ≡ Some o = rw same (get_or-set_same l.outlines t (Some o) None within) in
            let is : Some o ≡ Some p = sym at' ∙ at in
            rw same (outline_more _ _ o (next.structs t) found ∙ is)
        | inr other ↦
            let at' : outline_at l j ≡ Some p = sym (get_or-set_other l.outlines t j (Some o) None other) ∙ at in
            outline_more _ _ p (more.structs j) (right.outlines j p at')
      ];
      callable = λ j at. more.callable j (right.callable j at);
      sound = λ j p at. elim (same_or_not j t) [
        | inl same ↦
            let at' : outline_at l' j ≡ Some o = rw same (get_or-set_same l.outlines t (Some o) None within) in
            let is : o ≡ p = some_same o p (sym at' ∙ at) in
            subst IsSound is sound
        | inr other ↦
            let at' : outline_at l j ≡ Some p = sym (get_or-set_other l.outlines t j (Some o) None other) ∙ at in
            right.sound j p at'
      ];
    }

met_callable : (l : Learned) (t : ℕ) → t < length l.callable → callable_at l t ≡ false → met (record l { callable = set l.callable t true }) ≡ met l + 1
met_callable l t within none =
    let more = count_set (λ b. b) l.callable t true false within none refl in
    omega (arith, more)

pub put_callable : (l : Learned) → Rises (facts_of l.image) → IsRight l → (t : ℕ) → t < length l.callable → callable_at l t ≡ false
    → (followed (facts_of l.image) (known_so_far l)).is_callable t ≡ true → IsRight (record l { callable = set l.callable t true })
put_callable l rises right t within none found =
    let facts : TypeFacts = facts_of l.image in
    let l' : Learned = record l { callable = set l.callable t true } in
    let one : met l' ≡ suc (met l) = met_callable l t within none ∙ omega arith in
    let more : Within (known_then l) (known_then l') = after_more facts rises (met l) (met l') (omega arith) in
    let next : Within (followed facts (known_so_far l)) (known_then l') =
    within_more _ _ _ (rises _ _ (so_far_within l right)) (after_step facts (met l) (met l') one) in
    record {
      many = right.many;
      many_callable = length-set l.callable t true ∙ right.many_callable;
      outlines = λ j p at. outline_more _ _ p (more.structs j) (right.outlines j p at);
      callable = λ j at. elim (same_or_not j t) [
        | inl same ↦ rw same (next.callable t found)
        | inr other ↦ more.callable j (right.callable j (sym (get_or-set_other l.callable t j true false other) ∙ at))
      ];
      sound = right.sound;
    }

-- ---- nothing more to find

told_or_not : {A : Type 0} (x : Option A) → ((a : A) × (x ≡ Some a)) ⊎ (x ≡ None)
told_or_not None = inr refl
told_or_not (Some a) = inl (a, refl)

if_told : {A : Type 0} (b : Bool) (x : Option A) → b ≡ true → (if b then x else None) ≡ x
if_told true x h = refl
if_told false x h = absurd (cc)

-- what is known of a type of which something has been found
so_far_at : (l : Learned) (t : ℕ) (o : Outline) → outline_at l t ≡ Some o → (known_so_far l).struct_of t ≡ (known_then l).struct_of t
unfolding known_so_far
so_far_at l t o at = if_told (is_some (outline_at l t)) ((known_then l).struct_of t) (ap is_some at)

if_not_told : {A : Type 0} (b : Bool) (x : Option A) → b ≡ false → (if b then x else None) ≡ None
if_not_told true x h = absurd (cc)
if_not_told false x h = refl

so_far_none : (l : Learned) (t : ℕ) → outline_at l t ≡ None → (known_so_far l).struct_of t ≡ None
unfolding known_so_far
so_far_none l t at = if_not_told (is_some (outline_at l t)) ((known_then l).struct_of t) (ap is_some at)

struct_closed : (l : Learned) → Rises (facts_of l.image) → IsRight l → ((t : ℕ) → IsClosedAt l t) → (n t : ℕ) (s : StructShape)
    → (known_after (facts_of l.image) n).struct_of t ≡ Some s → (followed (facts_of l.image) (known_so_far l)).struct_of t ≡ Some s → (known_so_far l).struct_of t ≡ Some s
struct_closed l rises right closed n t s at found =
    let facts : TypeFacts = facts_of l.image in
    elim (told_or_not (outline_at l t)) [
      | inl told ↦
          let has : (x : StructShape) × ((known_then l).struct_of t ≡ Some x) × (Some (outline (Struct x)) ≡ Some told.0) = shape_found _ told.0 (right.outlines t told.0 told.1) in
          let here = (after_more facts rises (met l) (n + met l) (omega arith)).structs t has.0 has.1 in
          let there = (after_more facts rises n (n + met l) (omega arith)).structs t s at in
          so_far_at l t told.0 told.1 ∙ (has.1 ∙ (sym here ∙ there))
      | inr none ↦ let absent : None ≡ Some s = sym ((closed t).outline none) ∙ found in absurd (cc)
    ]

callable_closed : (l : Learned) → ((t : ℕ) → IsClosedAt l t) → (t : ℕ) → (followed (facts_of l.image) (known_so_far l)).is_callable t ≡ true → (known_so_far l).is_callable t ≡ true
unfolding known_so_far
callable_closed l closed t found = elim (true_or_not (callable_at l t)) [
  | inl is ↦ is
  | inr none ↦ let absent : false ≡ true = sym ((closed t).callable none) ∙ found in absurd (cc)
]

all_within : (l : Learned) → Rises (facts_of l.image) → IsRight l → ((t : ℕ) → IsClosedAt l t) → (n : ℕ) → Within (known_after (facts_of l.image) n) (known_so_far l)
all_within l rises right closed zero = nothing_within (facts_of l.image) (known_so_far l)
all_within l rises right closed (suc n) =
    let facts : TypeFacts = facts_of l.image in
    let next : Within (known_after facts (suc n)) (followed facts (known_so_far l)) =
    within_more _ _ _ (after_followed facts n) (rises _ _ (all_within l rises right closed n)) in
    record {
      structs = λ t s at. struct_closed l rises right closed (suc n) t s at (next.structs t s at);
      callable = λ t at. callable_closed l closed t (next.callable t at);
    }

-- no more is found than there are rows, twice
met_at_most : (l : Learned) → IsRight l → outline_at l 0 ≡ None → callable_at l 0 ≡ false → met l ≤ (facts_of l.image).count + (facts_of l.image).count
met_at_most l right none_struct none_callable =
    let outlines = count_rest is_some l.outlines None (omega (arith, right.many)) (none_is _ none_struct) in
    let callable = count_rest (λ b. b) l.callable false (omega (arith, right.many_callable)) none_callable in
    omega (arith, outlines, callable, right.many, right.many_callable)

-- a number by which nothing is there
pub record IsNothing (facts : TypeFacts) (t : ℕ) : Type 0 where
  pub outline : facts.struct_of t ≡ None
  pub invoke : facts.invoke_of t ≡ None

never_known : (facts : TypeFacts) (t n : ℕ) → IsNothing facts t → (known_after facts n).struct_of t ≡ None
unfolding known_after
never_known facts t zero absent = refl
never_known facts t (suc n) absent = ap (option_and_then (struct_shape (known_after facts n))) absent.outline

never_callable : (facts : TypeFacts) (t n : ℕ) → IsNothing facts t → (known_after facts n).is_callable t ≡ false
unfolding known_after
never_callable facts t zero absent = refl
never_callable facts t (suc n) absent = ap (λ s. is_ok (back_of (known_after facts n) s)) absent.invoke

never_outlined : (l : Learned) → IsRight l → (t : ℕ) → IsNothing (facts_of l.image) t → outline_at l t ≡ None
never_outlined l right t absent = elim (told_or_not (outline_at l t)) [
  | inl told ↦
      let has = shape_found _ told.0 (right.outlines t told.0 told.1) in
      let wrong : None ≡ Some has.0 = sym (never_known (facts_of l.image) t (met l) absent) ∙ has.1 in
      absurd (cc)
  | inr none ↦ none
]

never_found_callable : (l : Learned) → IsRight l → (t : ℕ) → IsNothing (facts_of l.image) t → callable_at l t ≡ false
never_found_callable l right t absent = elim (true_or_not (callable_at l t)) [
  | inl is ↦
      let wrong : false ≡ true = sym (never_callable (facts_of l.image) t (met l) absent) ∙ right.callable t is in
      absurd (cc)
  | inr none ↦ none
]

-- what is no row needs nothing
no_row : (m : Module) (t : ℕ) → is_row m Rows.type_defs t ≡ false → IsNothing (facts_of m) t
unfolding facts_of struct_facts invoke_signature
no_row m t none = record { outline = rw none refl; invoke = rw none refl }

no_zeroth : (m : Module) → IsNothing (facts_of m) 0
no_zeroth m = no_row m 0 refl

not_and : (a b c : Bool) → b ≡ false → (a && b && c) ≡ false
not_and true b c h = ap (λ x. x && c) h
not_and false b c h = refl

none_past : (m : Module) (t : ℕ) → (facts_of m).count < t → IsNothing (facts_of m) t
unfolding facts_of
none_past m t past =
    let beyond : nat_le t (row_count m Rows.type_defs) ≡ false = grind (arith, nat_tests) in
    no_row m t (not_and (nat_le 1 t) (nat_le t (row_count m Rows.type_defs)) (nat_lt t row_limit) beyond)

closed_past : (l : Learned) (t : ℕ) → IsNothing (facts_of l.image) t → IsClosedAt l t
closed_past l t absent = record {
  outline = λ none. ap (option_and_then (struct_shape (known_so_far l))) absent.outline;
  callable = λ none. ap (λ s. is_ok (back_of (known_so_far l) s)) absent.invoke;
}

within_or_past : (t n : ℕ) → (t ≤ n) ⊎ (n < t)
within_or_past t n = elim (nat_lt n t) as (λ v. nat_lt n t ≡ v → (t ≤ n) ⊎ (n < t)) [
  | true ↦ λ h. inr (grind (arith, nat_tests))
  | false ↦ λ h. inl (grind (arith, nat_tests))
] refl

closed_everywhere : (l : Learned) → IsNothing (facts_of l.image) 0 → ((t : ℕ) → (facts_of l.image).count < t → IsNothing (facts_of l.image) t)
    → ((t : ℕ) → t < (facts_of l.image).count → IsClosedAt l (t + 1)) → (t : ℕ) → IsClosedAt l t
closed_everywhere l zeroth past closed zero = closed_past l 0 zeroth
closed_everywhere l zeroth past closed (suc t) = elim (within_or_past (suc t) (facts_of l.image).count) [
  | inl within ↦ let next : t + 1 ≡ suc t = omega arith in subst (λ (k : ℕ). IsClosedAt l k) next (closed t (omega arith))
  | inr beyond ↦ closed_past l (suc t) (past (suc t) beyond)
]

pub closed_is_known : (l : Learned) → Rises (facts_of l.image) → IsRight l → ((t : ℕ) → t < (facts_of l.image).count → IsClosedAt l (t + 1))
    → Agree (known_so_far l) (known_of l.image)
unfolding known_of
closed_is_known l rises right within =
    let facts : TypeFacts = facts_of l.image in
    let zeroth = no_zeroth l.image in
    let closed = closed_everywhere l zeroth (none_past l.image) within in
    let most = met_at_most l right (never_outlined l right 0 zeroth) (never_found_callable l right 0 zeroth) in
    let up : Within (known_so_far l) (known facts) =
    within_more _ _ _ (so_far_within l right) (after_more facts rises (met l) (facts.count + facts.count) most) in
    let down : Within (known facts) (known_so_far l) = all_within l rises right closed (facts.count + facts.count) in
    record {
      structs = λ t. option_same _ _ (up.structs t) (down.structs t);
      callable = λ t. bool_same _ _ (up.callable t) (down.callable t);
    }

get_or-replicate_same : {A : Type 0} (n i : ℕ) (a : A) → get_or (replicate n a) i a ≡ a
get_or-replicate_same zero i a = refl
get_or-replicate_same (suc n) zero a = refl
get_or-replicate_same (suc n) (suc i) a = get_or-replicate_same n i a

-- nothing has been found at first
right_at_first : (image : Module) → IsRight (record { image = image; outlines = replicate ((facts_of image).count + 1) None; callable = replicate ((facts_of image).count + 1) false })
right_at_first image = record {
  many = length-replicate ((facts_of image).count + 1) None;
  many_callable = length-replicate ((facts_of image).count + 1) false;
  outlines = λ t o at. let absent : None ≡ Some o = sym (get_or-replicate_same ((facts_of image).count + 1) t None) ∙ at in absurd (cc);
  callable = λ t at. let absent : false ≡ true = sym (get_or-replicate_same ((facts_of image).count + 1) t false) ∙ at in absurd (cc);
  sound = λ t o at. let absent : None ≡ Some o = sym (get_or-replicate_same ((facts_of image).count + 1) t None) ∙ at in absurd (cc);
}

pub right_by : (image : Module) (n : ℕ) (outlines : List (Option Outline)) (callable : List Bool) → n ≡ row_count image Rows.type_defs
    → outlines ≡ replicate (n + 1) None → callable ≡ replicate (n + 1) false → IsRight (record { image = image; outlines = outlines; callable = callable })
unfolding facts_of
right_by image n outlines callable many outlines_are callable_are =
    let os : outlines ≡ replicate (row_count image Rows.type_defs + 1) None = outlines_are ∙ ap (λ (k : ℕ). replicate (k + 1) None) many in
    let cs : callable ≡ replicate (row_count image Rows.type_defs + 1) false = callable_are ∙ ap (λ (k : ℕ). replicate (k + 1) false) many in
    subst (λ (xs : List Bool). IsRight (record { image = image; outlines = outlines; callable = xs })) (sym cs)
    (subst (λ (xs : List (Option Outline)). IsRight (record { image = image; outlines = xs; callable = replicate (row_count image Rows.type_defs + 1) false })) (sym os) (right_at_first image))

-- ---- what is read of the findings

pub got_or : {A : Type 0} (xs : List A) (i : ℕ) (o : Option A) (d : A) → slice_get xs i ≡ o → unwrap_or o d ≡ get_or xs i d
got_or xs i o d is = ap (λ x. unwrap_or x d) (sym is) ∙ unwrap_or-slice_get xs i d

pub sound_at : (l : Learned) → IsRight l → (t : ℕ) (o : Option Outline) → slice_get l.outlines t ≡ Some o → IfSome o IsSound
sound_at l right t None is = tt
sound_at l right t (Some o) is = right.sound t o (sym (got_or l.outlines t (Some (Some o)) None is))

-- the outline of a type is that of the shape that is known
pub so_far_outline : (l : Learned) → IsRight l → (t : ℕ) → outline_of ((known_so_far l).struct_of t) ≡ outline_at l t
so_far_outline l right t = elim (told_or_not (outline_at l t)) [
  | inl told ↦ ap outline_of (so_far_at l t told.0 told.1) ∙ (right.outlines t told.0 told.1 ∙ sym told.1)
  | inr none ↦ ap outline_of (so_far_none l t none) ∙ sym none
]

pub so_far_callable : (l : Learned) (t : ℕ) → (known_so_far l).is_callable t ≡ callable_at l t
unfolding known_so_far
so_far_callable l t = refl

-- what is found leaves less to find
pub put_room : (l : Learned) → IsRight l → (f : Finding) → IsNew l f → room (with_finding l f) < room l
put_room l right (Outlined t o) new =
    let within : t < length l.outlines = omega (arith, new.within, right.many) in
    let more = met_outline l t o within new.new in
    let most = count_by-le-length is_some (set l.outlines t (Some o)) in
    let rest = count_by-le-length (λ b. b) l.callable in
    omega (arith, more, most, rest, length-set l.outlines t (Some o), right.many, right.many_callable)
put_room l right (Callable t) new =
    let within : t < length l.callable = omega (arith, new.within, right.many_callable) in
    let more = met_callable l t within new.new in
    let most = count_by-le-length (λ b. b) (set l.callable t true) in
    let rest = count_by-le-length is_some l.outlines in
    omega (arith, more, most, rest, length-set l.callable t true, right.many, right.many_callable)
