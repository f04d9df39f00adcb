use Rattle.native_memory.proofs.search.last_at.Given as goal

-- the ledger that the blank stands for
abbrev pub ghosts-counted : goal.ghosts-counted
ghosts-counted a = record { name = a.blank.name; parts = a.blank.parts }
