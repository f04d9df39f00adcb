-- Imports that are alike but for their names have one stub.
use Rattle.std.proofs.Common.{◌≡◌, ℕ, ◌+◌, ◌<◌, ◌≤◌, not, cond, ◌==◌, List, [], ◌∷◌, length, map, Option, Some, None, option_map, bit_and, refl, ap, arith, ◌∙◌}
use Rattle.std.specs.List.{enumerate_from}
use Rattle.sig_reader.specs.declared.signature.TypeSig.{TypeSig, out-TypeSig}
use Rattle.sig_reader.specs.declared.signature.Sig.{Sig, out-Sig}
use Rattle.type_model.specs.Module.{Module}
use Rattle.type_model.specs.Members.{Import, Marshalled, Method, mark_of, marshalled, method, sig_of}
use Rattle.stub_maker.specs.declared.kinds.Passed.{Passed}
use Rattle.stub_maker.specs.declared.signature.Imported.{Imported}
use Rattle.stub_maker.specs.declared.signature.Signature.{Signature}
use Rattle.stub_maker.specs.Described.{descriptor_of, imported_by, is_unicode_import, is_void, known_of, passed_at, passed_result, referred_step, sig_kind, signature_by, signature_of, stub_if, stub_of_import}
use Rattle.stub_maker.specs.Laws.{AreAlike}

-- functions that agree at each place of a list make the same of it
same_by_place : {A B : Type 0} (f g : ℕ × A → B) (k : ℕ) (xs : List A)
    → ((n : ℕ) (x : A) → k ≤ n → n < k + length xs → f (n, x) ≡ g (n, x))
    → map f (enumerate_from k xs) ≡ map g (enumerate_from k xs)
same_by_place f g k [] same = refl
same_by_place {A} {B} f g k (x ∷ xs) same =
    let here : f (k, x) ≡ g (k, x) = same k x (omega arith) (omega arith) in
    let rest : map f (enumerate_from (k + 1) xs) ≡ map g (enumerate_from (k + 1) xs) =
    same_by_place f g (k + 1) xs (λ n y from below. same n y (omega arith) (omega arith)) in
    ap (λ (b : B). b ∷ map f (enumerate_from (k + 1) xs)) here ∙ ap (λ (bs : List B). g (k, x) ∷ bs) rest

-- what is passed of this type, with these marks and this descriptor
abbrev passed_with : Module → TypeSig → ℕ → Marshalled → Passed
passed_with m sig marks d =
    let referred = referred_step sig (out-TypeSig sig) in
    record { reference = referred.0; kind = sig_kind m referred.1; flags = marks; descriptor = descriptor_of d }

passed_parts : (m : Module) (n place : ℕ) (sig : TypeSig) → passed_at m n place sig ≡ passed_with m sig (mark_of m n place) (marshalled m n place)
unfolding passed_at
passed_parts m n place sig = refl

passed_alike : (m : Module) (a b place : ℕ) (sig : TypeSig) → mark_of m a place ≡ mark_of m b place → marshalled m a place ≡ marshalled m b place
    → passed_at m a place sig ≡ passed_at m b place sig
passed_alike m a b place sig marks descriptors = rw (passed_parts m a place sig, passed_parts m b place sig, marks, descriptors) refl

-- the signature of a method, by its parameters and its result
abbrev signature_with : Sig → List Passed → Option Passed → Signature
signature_with sig params result_way =
    record { vararg = (out-Sig sig).vararg; generic = (out-Sig sig).generic; params = params; result = result_way }

module _ (m : Module) (a b : ℕ) where
  signature_by_alike : (sig : Sig)
      → ((place : ℕ) → place ≤ length (out-Sig sig).params → mark_of m a place ≡ mark_of m b place)
      → ((place : ℕ) → place ≤ length (out-Sig sig).params → marshalled m a place ≡ marshalled m b place)
      → signature_by m a sig ≡ signature_by m b sig
  signature_by_alike sig marks descriptors =
      let at : (place : ℕ) (t : TypeSig) → place ≤ length (out-Sig sig).params → passed_at m a place t ≡ passed_at m b place t =
      λ place t within. passed_alike m a b place t (marks place within) (descriptors place within) in
      let params : map (λ (p : ℕ × TypeSig). passed_at m a p.0 p.1) (enumerate_from 1 (out-Sig sig).params)
      ≡ map (λ (p : ℕ × TypeSig). passed_at m b p.0 p.1) (enumerate_from 1 (out-Sig sig).params) =
      same_by_place (λ (p : ℕ × TypeSig). passed_at m a p.0 p.1) (λ (p : ℕ × TypeSig). passed_at m b p.0 p.1) 1 (out-Sig sig).params
      (λ n t from below. at n t (omega arith)) in
      let result_way : passed_result m a (out-Sig sig).result ≡ passed_result m b (out-Sig sig).result =
      ap (λ (p : Passed). cond (is_void m (out-Sig sig).result) None (Some p)) (at 0 (out-Sig sig).result (omega arith)) in
      ap (λ (ps : List Passed). signature_with sig ps (passed_result m a (out-Sig sig).result)) params
      ∙ ap (λ (r : Option Passed). signature_with sig (map (λ (p : ℕ × TypeSig). passed_at m b p.0 p.1) (enumerate_from 1 (out-Sig sig).params)) r) result_way

  of_each : (o : Option Sig) → ((sig : Sig) → o ≡ Some sig → signature_by m a sig ≡ signature_by m b sig)
      → option_map (signature_by m a) o ≡ option_map (signature_by m b) o
  of_each None same = refl
  of_each (Some sig) same = ap Some (same sig refl)

  signatures_alike : sig_of m a ≡ sig_of m b → ((sig : Sig) → sig_of m a ≡ Some sig → signature_by m a sig ≡ signature_by m b sig)
      → signature_of m a ≡ signature_of m b
  unfolding signature_of
  signatures_alike sigs same = of_each (sig_of m a) same ∙ ap (option_map (signature_by m b)) sigs

-- an import, by its flags, those of its method, and the method's signature
abbrev imported_with : ℕ → ℕ → ℕ → Option Signature → Imported
imported_with flags method_flags impl_flags signature = record {
  preserves_signature = not (bit_and impl_flags 0x80 == 0);
  is_static = not (bit_and method_flags 0x10 == 0);
  signature = signature;
  unicode = is_unicode_import flags;
  saves_error = not (bit_and flags 0x40 == 0);
}

some_same : {A : Type 0} (x y : A) → Some x ≡ Some y → x ≡ y
some_same x y e = cc

imported_alike : (m : Module) (i j : Import) (a b : Option Method) → i.flags ≡ j.flags → option_map (λ of. of.flags) a ≡ option_map (λ of. of.flags) b
    → option_map (λ of. of.impl_flags) a ≡ option_map (λ of. of.impl_flags) b → signature_of m i.method ≡ signature_of m j.method
    → option_map (imported_by m i) a ≡ option_map (imported_by m j) b
imported_alike m i j None None flags method_flags impl_flags signature = refl
imported_alike m i j None (Some y) flags method_flags impl_flags signature = absurd (cc)
imported_alike m i j (Some x) None flags method_flags impl_flags signature = absurd (cc)
imported_alike m i j (Some x) (Some y) flags method_flags impl_flags signature =
    ap (λ (f : ℕ). Some (imported_with f x.flags x.impl_flags (signature_of m i.method))) flags
    ∙ ap (λ (f : ℕ). Some (imported_with j.flags f x.impl_flags (signature_of m i.method))) (some_same x.flags y.flags method_flags)
    ∙ ap (λ (f : ℕ). Some (imported_with j.flags y.flags f (signature_of m i.method))) (some_same x.impl_flags y.impl_flags impl_flags)
    ∙ ap (λ (s : Option Signature). Some (imported_with j.flags y.flags y.impl_flags s)) signature

pub alike : (m : Module) (i j : Import) → AreAlike m i j → stub_of_import m i ≡ stub_of_import m j
unfolding stub_of_import
alike m i j are =
    let by_sig : (sig : Sig) → sig_of m i.method ≡ Some sig → signature_by m i.method sig ≡ signature_by m j.method sig =
    λ sig is. signature_by_alike m i.method j.method sig (λ place within. are.marks sig place is within) (λ place within. are.descriptors sig place is within) in
    let signature : signature_of m i.method ≡ signature_of m j.method = signatures_alike m i.method j.method are.sigs by_sig in
    ap (stub_if (known_of m))
    (imported_alike m i j (method m i.method) (method m j.method) are.flags are.method_flags are.impl_flags signature)
