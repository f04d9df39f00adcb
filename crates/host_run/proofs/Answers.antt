-- Laws of what plhost answers.
use Rattle.std.proofs.Common.{◌≡◌, sym, ap, ◌∙◌, subst, ℕ, Bool, List, [], ◌∷◌, length, Option, Some, None, Result, Ok, Err, arith}
use Rattle.std.specs.Prelude.{nat_lt, if◌then◌else◌}
use Rattle.std.proofs.lemmas.Bool.{cond_both}
use Rattle.bound_base.specs.Outside.{Files}
use Rattle.byte_view.specs.Reading.{Broken}
use Rattle.type_model.specs.Module.{Module}
use Rattle.type_model.specs.Part.{assembly_types}
use Rattle.host_run.specs.declared.command.Command.{Command}
use Rattle.host_run.specs.declared.command.Command.TheVariants.{Imports, Stubs, Native, Run, Drill}
use Rattle.host_run.specs.Grammar.{command}
use Rattle.host_run.specs.Files.{file_limit}
use Rattle.host_run.specs.Answer.{Answer, file_answer, usage, too_large}
use Rattle.host_run.specs.AnswerLaws.{IsNoFailure, AnswersAreNoFailures, IsNoDrill, OtherAnswersAreOne, ReadingEndsAtARefusal}
use Rattle.host_run.specs.Commands.{IsAnswer, imports_answer, native_answer, stubs_answer}
use Rattle.host_run.specs.Imports.{imports_of}
use Rattle.host_run.specs.Native.{native_of}
use Rattle.host_run.specs.Stubs.{stubs_of}
use Rattle.host_run.specs.Readings.{names_of}
use Rattle.host_run.proofs.NativeStatuses.{native-status}

-- ---- no status of a failure

usage-own : IsNoFailure 201
usage-own = record { read = omega arith; put = omega arith; memory = omega arith }

file-own : (answer_of : List ℕ → Answer) (name : List ℕ) → ((bytes : List ℕ) → IsNoFailure (answer_of bytes).status) → (held : Option (List ℕ)) → IsNoFailure (file_answer answer_of name held).status
file-own answer_of name own None = record { read = omega arith; put = omega arith; memory = omega arith }
file-own answer_of name own (Some bytes) =
    cond_both (nat_lt file_limit (length bytes)) (too_large name) (answer_of bytes) (λ a. IsNoFailure a.status) (λ _. record { read = omega arith; put = omega arith; memory = omega arith }) (λ _. own bytes)

imports-own : (read : Result Module Broken) → IsNoFailure (imports_of read).status
imports-own (Ok m) = record { read = omega arith; put = omega arith; memory = omega arith }
imports-own (Err broken) = record { read = omega arith; put = omega arith; memory = omega arith }

stubs-own : (read : Result Module Broken) → IsNoFailure (stubs_of read).status
stubs-own (Ok m) = record { read = omega arith; put = omega arith; memory = omega arith }
stubs-own (Err broken) = record { read = omega arith; put = omega arith; memory = omega arith }

native-own : (lib symbol numbers bytes : List ℕ) → IsNoFailure (native_of lib symbol numbers bytes).status
native-own lib symbol numbers bytes =
    native-status IsNoFailure (record { read = omega arith; put = omega arith; memory = omega arith }) (record { read = omega arith; put = omega arith; memory = omega arith }) (record { read = omega arith; put = omega arith; memory = omega arith }) (record { read = omega arith; put = omega arith; memory = omega arith }) (record { read = omega arith; put = omega arith; memory = omega arith })
    lib symbol numbers bytes

of-answer : (a b : Answer) → a ≡ b → IsNoFailure b.status → IsNoFailure a.status
of-answer a b e own = let P : Answer → Type 0 = λ x. IsNoFailure x.status in subst P (sym e) own

answer-own : (c : Option Command) (words : List (List ℕ)) (files : Files) (a : Answer) → IsAnswer c words files a → IsNoFailure a.status
answer-own None words files a e = of-answer a usage e usage-own
answer-own (Some (Imports file)) words files a e =
    of-answer a (imports_answer file (files file)) e (file-own (λ bytes. imports_of (assembly_types bytes)) file (λ bytes. imports-own (assembly_types bytes)) (files file))
answer-own (Some (Stubs file)) words files a e =
    of-answer a (stubs_answer file (files file)) e (file-own (λ bytes. stubs_of (assembly_types bytes)) file (λ bytes. stubs-own (assembly_types bytes)) (files file))
answer-own (Some (Native lib symbol numbers)) words files a e =
    of-answer a (native_answer lib symbol numbers (files lib)) e (file-own (native_of lib symbol numbers) lib (native-own lib symbol numbers) (files lib))
answer-own (Some (Run run)) words files a e = of-answer a usage e usage-own
answer-own (Some (Drill number)) words files a e = of-answer a usage e usage-own

pub answers_are_no_failures : AnswersAreNoFailures
answers_are_no_failures words files a is = answer-own (command words) words files a is

-- ---- one answer

one-answer : (c : Option Command) (words : List (List ℕ)) (files : Files) (a b : Answer) → IsNoDrill c → IsAnswer c words files a → IsAnswer c words files b → a ≡ b
one-answer None words files a b other e f = e ∙ sym f
one-answer (Some (Imports file)) words files a b other e f = e ∙ sym f
one-answer (Some (Stubs file)) words files a b other e f = e ∙ sym f
one-answer (Some (Native lib symbol numbers)) words files a b other e f = e ∙ sym f
one-answer (Some (Run run)) words files a b other e f = e ∙ sym f
one-answer (Some (Drill number)) words files a b other e f = absurd other

pub other_answers_are_one : OtherAnswersAreOne
other_answers_are_one words files a b other e f = one-answer (command words) words files a b other e f

-- ---- the files that are read

pub reading_ends_at_a_refusal : ReadingEndsAtARefusal
reading_ends_at_a_refusal [] later refusing files refuses =
    ap (λ (b : Bool). refusing.name ∷ (if b then names_of later files else [])) refuses ∙ sym (ap (λ (b : Bool). refusing.name ∷ (if b then [] else [])) refuses)
reading_ends_at_a_refusal (first ∷ earlier) later refusing files refuses =
    ap (λ names. first.name ∷ (if first.accepts (files first.name) then names else [])) (reading_ends_at_a_refusal earlier later refusing files refuses)
