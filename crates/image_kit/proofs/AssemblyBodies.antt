-- The rows of a plan of an assembly and the bodies of its methods, as they are read.
use Rattle.std.proofs.Common.{◌≡◌, ℕ, zero, suc, ◌+◌, ◌-◌, ◌%◌, ◌<◌, ◌≤◌, ◌≢◌, Bool, true, false, ◌&&◌, cond, List, [], ◌∷◌, length, get_or, take, drop, slice_get, Option, Some, None, refl, sym, ap, ◌∙◌, subst, inl, inr, arith}
use Rattle.std.specs.Prelude.{nat_le, ◌==◌, slice_index, slice_index_or, count_by, find, unwrap_or, option_map, All}
use Rattle.std.proofs.lemmas.Bool.{cases_lt, leb-true, eqb-true, eq-eqb, ne_eqb, and_parts, false≢true}
use Rattle.std.proofs.lemmas.Option.{none-some, same_Some, slice_get_within, get_or_from_slice_get}
use Rattle.std.proofs.lemmas.List.{take_at, get_or-set_same}
use Rattle.std.proofs.lemmas.List.Sums.{sum_by-cons, AllPass-from_list_all}
use Rattle.byte_view.specs.Columns.{is_table, columns}
use Rattle.meta_tables.proofs.Tables.{no_columns}
use Rattle.image_kit.specs.declared.assembly_plan.TablePlan.{TablePlan}
use Rattle.image_kit.specs.declared.assembly_plan.MethodBody.{MethodBody}
use Rattle.image_kit.specs.declared.assembly_plan.AssemblyPlan.{AssemblyPlan}
use Rattle.image_kit.specs.AssemblyFile.{rows_if, rows_among, row_count, planned_row, bodies_rva, body_rva, bodies_bytes, bodies_size, padded, padded_size, zeros, padding, written_row, raw_size, assembly_end}
use Rattle.image_kit.specs.AssemblyReads.{is_given_once, is_only_body, Fits, BodyReads, RowsRead}
use Rattle.image_kit.proofs.Stands.{Stands, stands_front, stands_back}
use Rattle.image_kit.proofs.AssemblyHead.{place_reads}
use Rattle.image_kit.proofs.AssemblyPadded.{length-padded}
use Rattle.image_kit.proofs.AssemblyRows.{count_at}
use Rattle.image_kit.proofs.AssemblyFits.{planned_fits, written_by, column_is, value_is, rows_in_is}

-- ---- what is there once is found

counted_not : (here : Bool) (n m : ℕ) → here ≡ false → n ≡ cond here 1 0 + m → n ≡ m
counted_not false n m e h = omega arith
counted_not true n m e h = absurd (false≢true (sym e))

counted : (here : Bool) (n m : ℕ) → here ≡ true → n ≡ cond here 1 0 + m → n ≡ 1 + m
counted true n m e h = h
counted false n m e h = absurd (false≢true e)

count_some : {X : Type 0} (p : X → Bool) (xs : List X) (k : ℕ) (x : X) → slice_get xs k ≡ Some x → p x ≡ true → 1 ≤ count_by p xs
count_some p [] k x e passes = absurd (none-some x e)
count_some p (first ∷ more) zero x e passes =
    let same : first ≡ x = same_Some first x e in
    let here : p first ≡ true = ap p same ∙ passes in
    let count = sum_by-cons (λ y. cond (p y) 1 0) first more in
    rw (count, here) (omega arith)
count_some p (first ∷ more) (suc k) x e passes =
    let later = count_some p more k x e passes in
    let count = sum_by-cons (λ y. cond (p y) 1 0) first more in
    rw count (omega arith)

find_only : {X : Type 0} (p : X → Bool) (xs : List X) (k : ℕ) (x : X) → slice_get xs k ≡ Some x → p x ≡ true → count_by p xs ≡ 1 → find p xs ≡ Some x
find_only p [] k x e passes one = absurd (none-some x e)
find_only p (first ∷ more) zero x e passes one =
    let same : first ≡ x = same_Some first x e in
    let here : p first ≡ true = ap p same ∙ passes in
    rw here (ap Some same)
find_only {X} p (first ∷ more) (suc k) x e passes one = by (p first) refl (λ rest. find_only p more k x e passes rest)
  where
    by : (here : Bool) → p first ≡ here → (count_by p more ≡ 1 → find p more ≡ Some x) → cond (p first) (Some first) (find p more) ≡ Some x
    by true here deeper =
        let count : count_by p (first ∷ more) ≡ 1 + count_by p more = counted (p first) (count_by p (first ∷ more)) (count_by p more) here (sum_by-cons (λ y. cond (p y) 1 0) first more) in
        let later : 1 ≤ count_by p more = count_some p more k x e passes in
        absurd (omega (arith, count, later, one))
    by false here deeper =
        let count : count_by p (first ∷ more) ≡ count_by p more = counted_not (p first) (count_by p (first ∷ more)) (count_by p more) here (sum_by-cons (λ y. cond (p y) 1 0) first more) in
        ap (λ b. cond b (Some first) (find p more)) here ∙ deeper (sym count ∙ one)

-- ---- tables

-- a table of the plan is the only one of its number
pub table_given : (plan : AssemblyPlan) → Fits plan → (k : ℕ) (table : TablePlan) → slice_get plan.tables k ≡ Some table → is_given_once plan.tables table.number ≡ true
table_given plan fits k table e =
    let within = slice_get_within plan.tables k table e in
    let there : get_or plan.tables k table ≡ table = get_or_from_slice_get plan.tables k table table e in
    ap (λ (t : TablePlan). is_given_once plan.tables t.number) (sym there) ∙ AllPass-from_list_all (λ (table : TablePlan). is_given_once plan.tables table.number) plan.tables fits.tables k table within

pub rows_given : (plan : AssemblyPlan) → Fits plan → (k : ℕ) (table : TablePlan) → slice_get plan.tables k ≡ Some table → rows_among plan.tables table.number ≡ table.rows
unfolding rows_among
rows_given plan fits k table e =
    let given = table_given plan fits k table e in
    let one : count_by (λ (other : TablePlan). other.number == table.number) plan.tables ≡ 1 = eqb-true (count_by (λ (other : TablePlan). other.number == table.number) plan.tables) 1 ((and_parts (is_table table.number) (count_by (λ (other : TablePlan). other.number == table.number) plan.tables == 1) given).1) in
    ap rows_if (find_only (λ (planned : TablePlan). planned.number == table.number) plan.tables k table e (eq-eqb table.number table.number refl) one)

-- a metadata table's number is below 45
number_small : (table : ℕ) → is_table table ≡ true → table < 45
number_small table e =
    elim (cases_lt table 45) [
      | inl l ↦ l
      | inr g ↦ (let none : columns table ≡ [] = no_columns table g in absurd (false≢true (rw none at e)))
    ]

cell_given : (plan : AssemblyPlan) (table row column : ℕ) → ¬ ((table ≡ 6) × (column ≡ 0)) → slice_index (written_row plan table row) column ≡ slice_index (planned_row plan table row) column
cell_given plan table row column other =
    elim (column_is plan table column) [
      | inl method ↦ absurd (other method)
      | inr same ↦ same row
    ]

-- a method without a body has no address
no_body : (at : ℕ) (bodies : List MethodBody) (method : ℕ) → All (λ (body : MethodBody). body.method ≢ method) bodies → body_rva at bodies method ≡ None
unfolding body_rva
no_body at [] method none = refl
no_body at (body ∷ more) method none =
    let first : body.method ≢ method = none 0 body (omega arith) in
    rw (ne_eqb body.method method first) (no_body (at + padded_size body.bytes) more method (λ k d h. none (suc k) d (omega arith)))

rva_given : (plan : AssemblyPlan) → Fits plan → (table row : ℕ) → table < 45 → row < row_count plan table → table ≡ 6 → All (λ (body : MethodBody). body.method ≢ row + 1) plan.bodies → slice_index (written_row plan table row) 0 ≡ slice_index (planned_row plan table row) 0
rva_given plan fits table row small inside method none =
    let cells : List ℕ = planned_row plan table row in
    let nine = (planned_fits plan fits table row small inside).nine in
    let absent : body_rva bodies_rva plan.bodies (row + 1) ≡ None = no_body bodies_rva plan.bodies (row + 1) none in
    ap (λ (xs : List ℕ). slice_index xs 0) (written_by plan table row true (eq-eqb table 6 method)) ∙ get_or-set_same cells 0 _ 0 (omega arith) ∙ ap (λ (o : Option ℕ). unwrap_or o (slice_index cells 0)) absent

pub rows_read : (plan : AssemblyPlan) → Fits plan → (k : ℕ) (table : TablePlan) → slice_get plan.tables k ≡ Some table → RowsRead plan table
rows_read plan fits k table e =
    let given = table_given plan fits k table e in
    let number : ℕ = table.number in
    let small : number < 45 = number_small number ((and_parts (is_table number) (count_by (λ (other : TablePlan). other.number == number) plan.tables == 1) given).0) in
    let rows = rows_given plan fits k table e in
    let count : row_count plan number ≡ length table.rows = ap length rows in
    record {
      count = sym (rows_in_is plan number) ∙ count_at plan number small ∙ count;
      cells = λ row column within other.
          let inside : row < row_count plan number = omega arith in
          value_is plan number row column small inside ∙ cell_given plan number row column other ∙ ap (λ (rs : List (List ℕ)). slice_index (slice_index_or rs row []) column) rows;
      rvas = λ row within method none.
          let inside : row < row_count plan number = omega arith in
          value_is plan number row 0 small inside ∙ rva_given plan fits number row small inside method none ∙ ap (λ (rs : List (List ℕ)). slice_index (slice_index_or rs row []) 0) rows;
    }

-- ---- bodies

-- a body at its distance from the first
record BodyPlaced (rva at : ℕ) (bodies : List MethodBody) (body : MethodBody) (file : List ℕ) : Type 0 where
  pub distance : ℕ
  pub address : body_rva rva bodies body.method ≡ Some (rva + distance)
  pub there : Stands file (at + distance) body.bytes
  pub within : distance + length body.bytes ≤ bodies_size bodies
  pub aligned : distance % 4 ≡ 0

body_placed : (rva at : ℕ) (bodies : List MethodBody) (file : List ℕ) → Stands file at (bodies_bytes bodies) → (k : ℕ) (body : MethodBody) → slice_get bodies k ≡ Some body → count_by (λ (other : MethodBody). other.method == body.method) bodies ≡ 1 → BodyPlaced rva at bodies body file
unfolding body_rva bodies_bytes
body_placed rva at [] file s k body e one = absurd (none-some body e)
body_placed rva at (first ∷ more) file s zero body e one =
    let same : first ≡ body = same_Some first body e in
    let here : (first.method == body.method) ≡ true = eq-eqb first.method body.method (ap (λ (b : MethodBody). b.method) same) in
    let size = sum_by-cons (λ (b : MethodBody). padded_size b.bytes) first more in
    let there : Stands file at first.bytes = stands_front file at first.bytes (zeros (padding 4 (length first.bytes))) (stands_front file at (padded first.bytes) (bodies_bytes more) s) in
    let bytes : length first.bytes ≡ length body.bytes = ap (λ (b : MethodBody). length b.bytes) same in
    let start : at + 0 ≡ at = omega arith in
    record {
      distance = 0;
      address = rw here (ap Some (omega arith));
      there = subst (λ (n : ℕ). Stands file n body.bytes) (sym start) (subst (λ (b : MethodBody). Stands file at b.bytes) same there);
      within = omega arith;
      aligned = refl;
    }
body_placed rva at (first ∷ more) file s (suc k) body e one =
    let method : MethodBody → Bool = λ (other : MethodBody). other.method == body.method in
    let rest : Stands file (at + padded_size first.bytes) (bodies_bytes more) = stands_back file at (at + padded_size first.bytes) (padded first.bytes) (bodies_bytes more) s (ap (λ n. at + n) (length-padded first.bytes)) in
    by (first.method == body.method) refl (sum_by-cons (λ (other : MethodBody). cond (method other) 1 0) first more) (count_some method more k body e (eq-eqb body.method body.method refl))
    (λ one. body_placed (rva + padded_size first.bytes) (at + padded_size first.bytes) more file rest k body e one)
  where
    by : (here : Bool) → (first.method == body.method) ≡ here → count_by (λ (other : MethodBody). other.method == body.method) (first ∷ more) ≡ cond (first.method == body.method) 1 0 + count_by (λ (other : MethodBody). other.method == body.method) more → 1 ≤ count_by (λ (other : MethodBody). other.method == body.method) more
        → (count_by (λ (other : MethodBody). other.method == body.method) more ≡ 1 → BodyPlaced (rva + padded_size first.bytes) (at + padded_size first.bytes) more body file) → BodyPlaced rva at (first ∷ more) body file
    by true here count later deeper =
        let both = counted (first.method == body.method) (count_by (λ (other : MethodBody). other.method == body.method) (first ∷ more)) (count_by (λ (other : MethodBody). other.method == body.method) more) here count in
        absurd (omega (arith, both, later, one))
    by false here count later deeper =
        let same = counted_not (first.method == body.method) (count_by (λ (other : MethodBody). other.method == body.method) (first ∷ more)) (count_by (λ (other : MethodBody). other.method == body.method) more) here count in
        let size = sum_by-cons (λ (b : MethodBody). padded_size b.bytes) first more in
        let placed = deeper (sym same ∙ one) in
        let d : ℕ = placed.distance in
        let address : body_rva (rva + padded_size first.bytes) more body.method ≡ Some (rva + padded_size first.bytes + d) = placed.address in
        let within = placed.within in
        let aligned = placed.aligned in
        let place : at + padded_size first.bytes + d ≡ at + (padded_size first.bytes + d) = omega arith in
        let sum : rva + padded_size first.bytes + d ≡ rva + (padded_size first.bytes + d) = omega arith in
        record {
          distance = padded_size first.bytes + d;
          address = ap (λ b. cond b (Some rva) (body_rva (rva + padded_size first.bytes) more body.method)) here ∙ address ∙ ap Some sum;
          there = subst (λ (n : ℕ). Stands file n body.bytes) place placed.there;
          within = omega arith;
          aligned = omega arith;
        }

pub body_reads : (plan : AssemblyPlan) (file : List ℕ) → Fits plan → length file ≡ assembly_end plan → Stands file 584 (bodies_bytes plan.bodies) → (k : ℕ) (body : MethodBody) → slice_get plan.bodies k ≡ Some body → BodyReads plan file body
body_reads plan file fits long s k body e =
    let inside = slice_get_within plan.bodies k body e in
    let there : get_or plan.bodies k body ≡ body = get_or_from_slice_get plan.bodies k body body e in
    let methods : ℕ = row_count plan 6 in
    let only : is_only_body plan.bodies methods body.method ≡ true =
    ap (λ (b : MethodBody). is_only_body plan.bodies methods b.method) (sym there) ∙ AllPass-from_list_all (λ (b : MethodBody). is_only_body plan.bodies methods b.method) plan.bodies fits.bodies k body inside in
    let parts = and_parts (nat_le 1 body.method && nat_le body.method methods) (count_by (λ (other : MethodBody). other.method == body.method) plan.bodies == 1) only in
    let range = and_parts (nat_le 1 body.method) (nat_le body.method methods) parts.0 in
    let low : 1 ≤ body.method = leb-true 1 body.method range.0 in
    let high : body.method ≤ methods = leb-true body.method methods range.1 in
    let one = eqb-true (count_by (λ (other : MethodBody). other.method == body.method) plan.bodies) 1 parts.1 in
    let placed = body_placed bodies_rva 584 plan.bodies file s k body e one in
    let d : ℕ = placed.distance in
    let row : ℕ = body.method - 1 in
    let row_in : row < methods = omega arith in
    let cells : List ℕ = planned_row plan 6 row in
    let nine = (planned_fits plan fits 6 row (omega arith) row_in).nine in
    let back : row + 1 ≡ body.method = omega arith in
    let address : body_rva bodies_rva plan.bodies (row + 1) ≡ Some (bodies_rva + d) = ap (body_rva bodies_rva plan.bodies) back ∙ placed.address in
    let cell : slice_index (written_row plan 6 row) 0 ≡ bodies_rva + d =
    ap (λ (xs : List ℕ). slice_index xs 0) (written_by plan 6 row true refl) ∙ get_or-set_same cells 0 _ 0 (omega arith) ∙ ap (λ (o : Option ℕ). unwrap_or o (slice_index cells 0)) address in
    let within = placed.within in
    let aligned = placed.aligned in
    let place : 512 + (bodies_rva + d - 0x2000) ≡ 584 + d = omega arith in
    let found = place_reads (raw_size plan) (length file) (bodies_rva + d) (length body.bytes) (omega arith) (omega arith) (omega arith) in
    let bytes : take (length body.bytes) (drop (584 + d) file) ≡ body.bytes = ap (take (length body.bytes)) placed.there.from ∙ take_at body.bytes placed.there.rest (length body.bytes) refl in
    record {
      rva = bodies_rva + d;
      in_row = value_is plan 6 row 0 (omega arith) row_in ∙ cell;
      bytes_are = ap (option_map (λ at. take (length body.bytes) (drop at file))) found ∙ ap (λ n. Some (take (length body.bytes) (drop n file))) place ∙ ap Some bytes;
      aligned = omega arith;
    }
