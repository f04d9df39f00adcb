-- The slots that hold a method are among those of its kin, and these are made by its kin alone.
use Rattle.std.proofs.Common.{◌≡◌, ℕ, inl, inr, Bool, true, false, cond, List, [], ◌∷◌, map, reverse, Option, Some, None, refl, sym, ap, ◌∙◌, subst}
use Rattle.std.specs.Prelude.{filter, fold, find}
use Rattle.std.specs.List.{All}
use Rattle.std.proofs.lemmas.Bool.{or_cases, false_from_ne_true, true≢false}
use Rattle.std.proofs.lemmas.List.Elements.{All-cons, All-head, All-tail, All-nil}
use Rattle.managed_value.specs.declared.names.TypeId.{TypeId}
use Rattle.type_model.specs.Module.{Module}
use Rattle.type_model.specs.Types.{bases}
use Rattle.type_members.specs.declared.member.Member.{Member}
use Rattle.type_members.specs.Chosen.{Slot, slot_of, same_member, begins_slot, virtuals, take_place, with_method, impls_of, holds, answered_by, with_body, with_impl, with_class, slots_of}
use Rattle.type_members.specs.Akin.{like, akin, with_akin, akin_slots, taken}
use Rattle.type_members.proofs.Likeness.{same_is, akin_like, akin_same, akin_on, akin_back, like_back}

module _ (m : Module) (x : Member) where
  abbrev pub keeps : Slot → Bool
  keeps slot = akin m x slot.first

  -- a method that is no kin changes none of the slots of the kin
  other_slot : (y : Member) (slot : Slot) (slots : List Slot) (b : Bool) → like m slot.first y ≡ b → akin m x y ≡ false
      → filter keeps (take_place m y slots) ≡ filter keeps slots
      → filter keeps (cond b (taken slot y ∷ slots) (slot ∷ take_place m y slots)) ≡ filter keeps (slot ∷ slots)
  other_slot y slot slots true is far rest =
      let out : keeps slot ≡ false =
      false_from_ne_true (keeps slot) (λ kin. true≢false (sym (akin_on m x slot.first y kin is) ∙ far)) in
      ap (λ (b : Bool). cond b (taken slot y ∷ filter keeps slots) (filter keeps slots)) out
      ∙ sym (ap (λ (b : Bool). cond b (slot ∷ filter keeps slots) (filter keeps slots)) out)
  other_slot y slot slots false is far rest = ap (λ (r : List Slot). cond (keeps slot) (slot ∷ r) r) rest

  other_place : (y : Member) (slots : List Slot) → akin m x y ≡ false → filter keeps (take_place m y slots) ≡ filter keeps slots
  other_place y [] far = ap (λ (b : Bool). cond b (slot_of y ∷ []) []) far
  other_place y (slot ∷ slots) far = other_slot y slot slots (like m slot.first y) refl far (other_place y slots far)

  other_method : (y : Member) (slots : List Slot) (b : Bool) → akin m x y ≡ false
      → filter keeps (cond b (slot_of y ∷ slots) (take_place m y slots)) ≡ filter keeps slots
  other_method y slots true far = ap (λ (b : Bool). cond b (slot_of y ∷ filter keeps slots) (filter keeps slots)) far
  other_method y slots false far = other_place y slots far

  -- one of the kin changes these slots as it would among others
  kin_kept : (y : Member) (slot : Slot) (slots : List Slot) (b : Bool) → keeps slot ≡ b → like m slot.first y ≡ false
      → filter keeps (take_place m y slots) ≡ take_place m y (filter keeps slots)
      → cond b (slot ∷ filter keeps (take_place m y slots)) (filter keeps (take_place m y slots))
      ≡ take_place m y (cond b (slot ∷ filter keeps slots) (filter keeps slots))
  kin_kept y slot slots true kin is rest =
      ap (λ (r : List Slot). slot ∷ r) rest
      ∙ sym (ap (λ (b : Bool). cond b (taken slot y ∷ filter keeps slots) (slot ∷ take_place m y (filter keeps slots))) is)
  kin_kept y slot slots false kin is rest = rest

  kin_slot : (y : Member) (slot : Slot) (slots : List Slot) (b : Bool) → like m slot.first y ≡ b → akin m x y ≡ true
      → filter keeps (take_place m y slots) ≡ take_place m y (filter keeps slots)
      → filter keeps (cond b (taken slot y ∷ slots) (slot ∷ take_place m y slots)) ≡ take_place m y (filter keeps (slot ∷ slots))
  kin_slot y slot slots true is kin rest =
      let in_it : keeps slot ≡ true = akin_back m x slot.first y kin is in
      ap (λ (b : Bool). cond b (taken slot y ∷ filter keeps slots) (filter keeps slots)) in_it
      ∙ sym (ap (λ (b : Bool). take_place m y (cond b (slot ∷ filter keeps slots) (filter keeps slots))) in_it
      ∙ ap (λ (b : Bool). cond b (taken slot y ∷ filter keeps slots) (slot ∷ take_place m y (filter keeps slots))) is)
  kin_slot y slot slots false is kin rest = kin_kept y slot slots (keeps slot) refl is rest

  kin_place : (y : Member) (slots : List Slot) → akin m x y ≡ true → filter keeps (take_place m y slots) ≡ take_place m y (filter keeps slots)
  kin_place y [] kin = ap (λ (b : Bool). cond b (slot_of y ∷ []) []) kin
  kin_place y (slot ∷ slots) kin = kin_slot y slot slots (like m slot.first y) refl kin (kin_place y slots kin)

  kin_method : (y : Member) (slots : List Slot) (b : Bool) → akin m x y ≡ true
      → filter keeps (cond b (slot_of y ∷ slots) (take_place m y slots))
      ≡ cond b (slot_of y ∷ filter keeps slots) (take_place m y (filter keeps slots))
  kin_method y slots true kin = ap (λ (b : Bool). cond b (slot_of y ∷ filter keeps slots) (filter keeps slots)) kin
  kin_method y slots false kin = kin_place y slots kin

  -- all of a class's
  one_of : (y : Member) (slots : List Slot) (ys : List Member) (b : Bool) → akin m x y ≡ b
      → fold (with_method m) (filter keeps (with_method m slots y)) (filter (akin m x) ys)
      ≡ fold (with_method m) (filter keeps slots) (cond b (y ∷ filter (akin m x) ys) (filter (akin m x) ys))
  one_of y slots ys true kin =
      ap (λ (s : List Slot). fold (with_method m) s (filter (akin m x) ys)) (kin_method y slots (begins_slot m y) kin)
  one_of y slots ys false far =
      ap (λ (s : List Slot). fold (with_method m) s (filter (akin m x) ys)) (other_method y slots (begins_slot m y) far)

  all_of : (slots : List Slot) (ys : List Member)
      → filter keeps (fold (with_method m) slots ys) ≡ fold (with_method m) (filter keeps slots) (filter (akin m x) ys)
  all_of slots [] = refl
  all_of slots (y ∷ ys) = all_of (with_method m slots y) ys ∙ one_of y slots ys (akin m x y) refl

  -- what answers changes in a slot, and not whose it is
  answer_kept : (d b : Member) (slot : Slot) (c : Bool)
      → keeps (cond c (record { first = slot.first; members = slot.members; body = b }) slot) ≡ keeps slot
  answer_kept d b slot true = refl
  answer_kept d b slot false = refl

  answers_if : (d b : Member) (slot : Slot) (slots : List Slot) (c : Bool)
      → cond c (answered_by d b slot ∷ map (answered_by d b) (filter keeps slots)) (map (answered_by d b) (filter keeps slots))
      ≡ map (answered_by d b) (cond c (slot ∷ filter keeps slots) (filter keeps slots))
  answers_if d b slot slots true = refl
  answers_if d b slot slots false = refl

  answers : (d b : Member) (slots : List Slot) → filter keeps (map (answered_by d b) slots) ≡ map (answered_by d b) (filter keeps slots)
  answers d b [] = refl
  answers d b (slot ∷ slots) =
      ap (λ (r : List Slot). cond (keeps (answered_by d b slot)) (answered_by d b slot ∷ r) r) (answers d b slots)
      ∙ ap (λ (c : Bool). cond c (answered_by d b slot ∷ map (answered_by d b) (filter keeps slots)) (map (answered_by d b) (filter keeps slots)))
      (answer_kept d b slot (holds d slot))
      ∙ answers_if d b slot slots (keeps slot)

  bodied_kept : (d b : Option Member) (slots : List Slot) → filter keeps (with_body d b slots) ≡ with_body d b (filter keeps slots)
  bodied_kept (Some d) (Some b) slots = answers d b slots
  bodied_kept (Some d) None slots = refl
  bodied_kept None b slots = refl

  impls_kept : (rows : List (List ℕ)) (slots : List Slot) → filter keeps (fold (with_impl m) slots rows) ≡ fold (with_impl m) (filter keeps slots) rows
  impls_kept [] slots = refl
  impls_kept (row ∷ rows) slots =
      impls_kept rows (with_impl m slots row)
      ∙ ap (λ (s : List Slot). fold (with_impl m) s rows) (bodied_kept _ _ slots)

  class_kept : (slots : List Slot) (id : TypeId) → filter keeps (with_class m slots id) ≡ with_akin m x (filter keeps slots) id
  class_kept slots id =
      impls_kept (reverse (impls_of m id)) (fold (with_method m) slots (virtuals m id))
      ∙ ap (λ (s : List Slot). fold (with_impl m) s (reverse (impls_of m id))) (all_of slots (virtuals m id))

  pub classes_kept : (ids : List TypeId) (slots : List Slot) → filter keeps (fold (with_class m) slots ids) ≡ fold (with_akin m x) (filter keeps slots) ids
  classes_kept [] slots = refl
  classes_kept (id ∷ ids) slots =
      classes_kept ids (with_class m slots id) ∙ ap (λ (s : List Slot). fold (with_akin m x) s ids) (class_kept slots id)

-- a slot has none but its first method and methods that are like it
module _ (m : Module) where
  abbrev Kin : Slot → Type 0
  Kin slot = (y : Member) → holds y slot ≡ true → akin m y slot.first ≡ true

  kin_alone : (x : Member) → Kin (slot_of x)
  kin_alone x y e = elim (or_cases (same_member y x) false e) [ inl is ↦ akin_same m y x is | inr is ↦ cc ]

  kin_taken : (x : Member) (slot : Slot) → Kin slot → like m slot.first x ≡ true → Kin (taken slot x)
  kin_taken x slot kin is y e = elim (or_cases (same_member y x) (holds y slot) e) [
    | inl same ↦ akin_like m y slot.first (subst (λ (z : Member). like m z slot.first ≡ true) (sym (same_is y x same)) (like_back m slot.first x is))
    | inr old ↦ kin y old
  ]

  place_kin_if : (x : Member) (slot : Slot) (slots : List Slot) (b : Bool) → like m slot.first x ≡ b → Kin slot → All Kin slots
      → All Kin (take_place m x slots) → All Kin (cond b (taken slot x ∷ slots) (slot ∷ take_place m x slots))
  place_kin_if x slot slots true is here there rest = All-cons Kin (taken slot x) slots (kin_taken x slot here is) there
  place_kin_if x slot slots false is here there rest = All-cons Kin slot (take_place m x slots) here rest

  place_kin : (x : Member) (slots : List Slot) → All Kin slots → All Kin (take_place m x slots)
  place_kin x [] all = All-cons Kin (slot_of x) [] (kin_alone x) (All-nil Kin)
  place_kin x (slot ∷ slots) all =
      let here = All-head Kin slot slots all in
      let there = All-tail Kin slot slots all in
      place_kin_if x slot slots (like m slot.first x) refl here there (place_kin x slots there)

  method_kin_if : (x : Member) (slots : List Slot) (b : Bool) → All Kin slots → All Kin (cond b (slot_of x ∷ slots) (take_place m x slots))
  method_kin_if x slots true all = All-cons Kin (slot_of x) slots (kin_alone x) all
  method_kin_if x slots false all = place_kin x slots all

  methods_kin : (ys : List Member) (slots : List Slot) → All Kin slots → All Kin (fold (with_method m) slots ys)
  methods_kin [] slots all = all
  methods_kin (y ∷ ys) slots all = methods_kin ys (with_method m slots y) (method_kin_if y slots (begins_slot m y) all)

  answer_kin : (d b : Member) (slot : Slot) (c : Bool) → Kin slot → Kin (cond c (record { first = slot.first; members = slot.members; body = b }) slot)
  answer_kin d b slot true kin = kin
  answer_kin d b slot false kin = kin

  answers_kin : (d b : Member) (slots : List Slot) → All Kin slots → All Kin (map (answered_by d b) slots)
  answers_kin d b [] all = All-nil Kin
  answers_kin d b (slot ∷ slots) all =
      All-cons Kin (answered_by d b slot) (map (answered_by d b) slots)
      (answer_kin d b slot (holds d slot) (All-head Kin slot slots all)) (answers_kin d b slots (All-tail Kin slot slots all))

  bodied_kin : (d b : Option Member) (slots : List Slot) → All Kin slots → All Kin (with_body d b slots)
  bodied_kin (Some d) (Some b) slots all = answers_kin d b slots all
  bodied_kin (Some d) None slots all = all
  bodied_kin None b slots all = all

  impls_kin : (rows : List (List ℕ)) (slots : List Slot) → All Kin slots → All Kin (fold (with_impl m) slots rows)
  impls_kin [] slots all = all
  impls_kin (row ∷ rows) slots all = impls_kin rows (with_impl m slots row) (bodied_kin _ _ slots all)

  classes_kin : (ids : List TypeId) (slots : List Slot) → All Kin slots → All Kin (fold (with_class m) slots ids)
  classes_kin [] slots all = all
  classes_kin (id ∷ ids) slots all =
      classes_kin ids (with_class m slots id)
      (impls_kin (reverse (impls_of m id)) (fold (with_method m) slots (virtuals m id)) (methods_kin (virtuals m id) slots all))

  found_if : (x : Member) (slot : Slot) (slots : List Slot) (b c : Bool) → holds x slot ≡ b → keeps m x slot ≡ c → Kin slot
      → find (holds x) slots ≡ find (holds x) (filter (keeps m x) slots)
      → cond b (Some slot) (find (holds x) slots) ≡ find (holds x) (cond c (slot ∷ filter (keeps m x) slots) (filter (keeps m x) slots))
  found_if x slot slots true true is kept kin rest = sym (ap (λ (b : Bool). cond b (Some slot) (find (holds x) (filter (keeps m x) slots))) is)
  found_if x slot slots true false is kept kin rest = absurd (true≢false (sym (kin x is) ∙ kept))
  found_if x slot slots false true is kept kin rest =
      rest ∙ sym (ap (λ (b : Bool). cond b (Some slot) (find (holds x) (filter (keeps m x) slots))) is)
  found_if x slot slots false false is kept kin rest = rest

  found_kept : (x : Member) (slots : List Slot) → All Kin slots → find (holds x) slots ≡ find (holds x) (filter (keeps m x) slots)
  found_kept x [] all = refl
  found_kept x (slot ∷ slots) all =
      found_if x slot slots (holds x slot) (keeps m x slot) refl refl (All-head Kin slot slots all)
      (found_kept x slots (All-tail Kin slot slots all))

  pub found_among_kin : (x : Member) (receiver : TypeId) → find (holds x) (slots_of m receiver) ≡ find (holds x) (akin_slots m x (receiver ∷ bases m receiver))
  unfolding slots_of
  found_among_kin x receiver =
      let ids : List TypeId = reverse (receiver ∷ bases m receiver) in
      found_kept x (fold (with_class m) [] ids) (classes_kin ids [] (All-nil Kin))
      ∙ ap (find (holds x)) (classes_kept m x ids [])
