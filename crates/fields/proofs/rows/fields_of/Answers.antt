-- `fields::rows::fields_of` meets its contract: the statics are the tables. Assumes nothing.
use Rattle.std.proofs.Common.{refl}
use Rattle.fields.specs.Table.{fields_in, subframe2_rows, page1_rows, page6_rows}
use Rattle.fields.proofs.rows.fields_of.Goals as goal

pub returns-in-Subframe2 : goal.returns-in-Subframe2
unfolding fields_in subframe2_rows
returns-in-Subframe2 c = rw c.in-Subframe2.is refl

pub returns-in-Page1 : goal.returns-in-Page1
unfolding fields_in page1_rows
returns-in-Page1 c = rw c.in-Page1.is refl

pub returns-in-Page6 : goal.returns-in-Page6
unfolding fields_in page6_rows
returns-in-Page6 c = rw c.in-Page6.is refl

pub returns-in-NoFields : goal.returns-in-NoFields
unfolding fields_in
returns-in-NoFields c = rw c.in-NoFields.is refl
