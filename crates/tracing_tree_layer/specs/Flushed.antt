-- Receivers that were flushed.

-- the receiver is as a flush leaves it
abbrev pub WasFlushed : {C : Type 0} → (C → C → Type 0) → C → Type 0
WasFlushed {C = C} flushes receiver = (before : C) × flushes before receiver
