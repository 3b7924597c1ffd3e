use Rattle.std.proofs.Common.{inl, inr}
use Rattle.cell_ops.proofs.conversion.converted.Goals as goal

pub returns-in-Nominal-from : goal.returns-in-Nominal-from
returns-in-Nominal-from c =
    rw c.in-Boolean.is
    (elim c.in-Nominal-from.is [
      | inl nominal ↦ rw nominal c.one-in-Nominal-from.ensures
      | inr rest ↦ elim rest [ inl ordinal ↦ rw ordinal c.one-in-Nominal-from.ensures | inr scalar ↦ rw scalar c.one-in-Nominal-from.ensures ]
    ])

pub returns-in-Boolean-from-2 : goal.returns-in-Boolean-from-2
returns-in-Boolean-from-2 c =
    elim c.in-Nominal.is [
      | inl to_nominal ↦ rw to_nominal (elim c.in-Boolean-from-2.is [ inl boolean ↦ rw boolean c.one-in-Boolean-from-2.ensures | inr rest ↦ elim rest [ inl nominal ↦ rw nominal c.one-in-Boolean-from-2.ensures | inr more ↦ elim more [ inl ordinal ↦ rw ordinal c.one-in-Boolean-from-2.ensures | inr ldd ↦ rw ldd c.one-in-Boolean-from-2.ensures ] ] ])
      | inr to_ordinal ↦ rw to_ordinal (elim c.in-Boolean-from-2.is [ inl boolean ↦ rw boolean c.one-in-Boolean-from-2.ensures | inr rest ↦ elim rest [ inl nominal ↦ rw nominal c.one-in-Boolean-from-2.ensures | inr more ↦ elim more [ inl ordinal ↦ rw ordinal c.one-in-Boolean-from-2.ensures | inr ldd ↦ rw ldd c.one-in-Boolean-from-2.ensures ] ] ])
    ]

pub returns-in-Boolean-from-3 : goal.returns-in-Boolean-from-3
returns-in-Boolean-from-3 c = rw c.in-Scalar.is (elim c.in-Boolean-from-3.is [ inl boolean ↦ rw boolean c.one-in-Boolean-from-3.ensures | inr rest ↦ elim rest [ inl nominal ↦ rw nominal c.one-in-Boolean-from-3.ensures | inr more ↦ elim more [ inl ordinal ↦ rw ordinal c.one-in-Boolean-from-3.ensures | inr ldd ↦ rw ldd c.one-in-Boolean-from-3.ensures ] ] ])
