use Rattle.native_cases.proofs.in_place_rows.answer.Given as goal

-- the ledger that the blank stands for
abbrev pub ghosts-find : goal.ghosts-find
ghosts-find g a = record { name = a.blank.name; parts = a.blank.parts }
