-- The question for the office's row, as it is written.
use Rattle.std.proofs.Common.{◌≡◌, refl, [], ◌∷◌, codes, None, Ok, false}
use Rattle.sqlite_ast.specs.declared.{Core.{Core, out-Core}, Expr.{Expr, out-Expr, TheOpen.{Expr-F, Shown-F}}, Select.{Select, out-Select}}
use Rattle.sqlite_ast.specs.declared.Source.{Source, out-Source}
use Rattle.sqlite_syntax.specs.declared.statement.Parsed.{Parsed}
use Rattle.sqlite_resolve.specs.{Compile.{first}, Scope.{Name}}
use Rattle.sqlite_tied.specs.Compute.{everything}
use Rattle.plant_store_statements.specs.declared.texts.TheConstants.{SELECT_OFFICE}
use Rattle.sqlite_ast.specs.declared.Shown as written
use Rattle.sqlite_ast.specs.declared.Origin.TheVariants as origin
use Rattle.sqlite_ast.specs.declared.Statement.TheVariants as statement

-- a column that is shown under its name
pub record IsShownColumn (s : written.Shown) (n : Name) : Type 0 where
  pub text : Name
  pub e : Expr
  pub one : written.out-Shown s ≡ Shown-F.One e None text
  pub out : out-Expr e ≡ Expr-F.Column None n

-- a query of the one table of this name, which shows these three columns of it
pub record Asks (s : Select) (table n₁ n₂ n₃ : Name) : Type 0 where
  pub core : Core
  pub src : Source
  pub with : (out-Select s).with ≡ []
  pub first_is : (out-Select s).first ≡ core
  pub others : (out-Select s).others ≡ []
  pub order : (out-Select s).order ≡ []
  pub limit : (out-Select s).limit ≡ None
  pub offset : (out-Select s).offset ≡ None
  pub froms : (out-Core core).from ≡ src ∷ []
  pub filter : (out-Core core).filter ≡ None
  pub group : (out-Core core).group ≡ []
  pub having : (out-Core core).having ≡ None
  pub distinct : (out-Core core).distinct ≡ false
  pub from : (out-Source src).origin ≡ origin.Table table
  pub alias : (out-Source src).alias ≡ None
  pub using : (out-Source src).using ≡ []
  pub left : (out-Source src).is_left ≡ false
  pub on : (out-Source src).on ≡ None
  pub s₁ : written.Shown
  pub s₂ : written.Shown
  pub s₃ : written.Shown
  pub shown : (out-Core core).shown ≡ s₁ ∷ s₂ ∷ s₃ ∷ []
  pub w₁ : IsShownColumn s₁ n₁
  pub w₂ : IsShownColumn s₂ n₂
  pub w₃ : IsShownColumn s₃ n₃

pub record IsAsked : Type 0 where
  pub p : Parsed
  pub s : Select
  pub is : first SELECT_OFFICE.now ≡ Ok p
  pub statement_is : p.statement ≡ statement.Select s
  pub formats : p.formats ≡ []
  pub names : p.names ≡ []
  pub asks : Asks s (codes "office") (codes "id") (codes "schema_no") (codes "admin")

pub asked : IsAsked
unfolding everything
asked = record {
  p = _;
  s = _;
  is = refl;
  statement_is = refl;
  formats = refl;
  names = refl;
  asks = record {
    core = _;
    src = _;
    with = refl;
    first_is = refl;
    others = refl;
    order = refl;
    limit = refl;
    offset = refl;
    froms = refl;
    filter = refl;
    group = refl;
    having = refl;
    distinct = refl;
    from = refl;
    alias = refl;
    using = refl;
    left = refl;
    on = refl;
    s₁ = _;
    s₂ = _;
    s₃ = _;
    shown = refl;
    w₁ = record { text = _; e = _; one = refl; out = refl };
    w₂ = record { text = _; e = _; one = refl; out = refl };
    w₃ = record { text = _; e = _; one = refl; out = refl };
  };
}
