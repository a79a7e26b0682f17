-- The expressions of a design, lowered, and the places where they hang.
use Rattle.std.specs.Prelude.{◌≡◌, length}
use Rattle.lx_fhdl.specs.declared.design.Design.{Design}
use Rattle.lx_width.specs.Shapes.{AreShapes}
use Rattle.lx_plain.specs.Sources.{IsLowered, Read}
use Rattle.lx_exprs.specs.declared.exprs.LoweredExprs.{LoweredExprs}

abbrev pub read : Design → LoweredExprs → Read
read d l = record { design = d; shapes = l.shapes; places = l.places }

-- Each expression of a design has a place where its lowered tree hangs, and a shape.
pub record AreLowered (d : Design) (l : LoweredExprs) : Type 0 where
  pub shapes : AreShapes d l.shapes
  pub long : length l.places ≡ length d.exprs
  pub lowered : IsLowered (read d l) l.draft
