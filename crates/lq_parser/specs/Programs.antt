-- The programs that lexemes spell, one case a rule of the grammar. docs/LANGUAGE.md, "Grammar".
use Rattle.std.specs.Prelude.{ℕ, Option, None, Some, List, [], ◌∷◌, ◌++◌}
use Rattle.lq_tree.specs.declared.place.Place.{Place}
use Rattle.lq_tree.specs.declared.expr.CType.{CType}
use Rattle.lq_tree.specs.declared.stmt.Stmt.{Stmt}
use Rattle.lq_tree.specs.declared.program.Param.{Param}
use Rattle.lq_tree.specs.declared.program.StructDef.{StructDef}
use Rattle.lq_tree.specs.declared.program.Func.{Func}
use Rattle.lq_tree.specs.declared.program.Program.{Program}
use Rattle.lq_parser.specs.declared.lexeme.Lexeme.{Lexeme}
use Rattle.lq_parser.specs.declared.lexeme.Sign.TheVariants.{LeftParen, RightParen, LeftBrace, RightBrace, Comma, Semicolon}
use Rattle.lq_parser.specs.declared.lexeme.Keyword.TheVariants.{Struct, Void}
use Rattle.lq_parser.specs.Lexemes.{sign_at, word_at, name_at}
use Rattle.lq_parser.specs.Types.{IsType}
use Rattle.lq_parser.specs.Statements.{IsBlock}

-- param = type NAME
pub data IsParam : List Lexeme → Param → Type 0 where
  param : (at : Place) {t : List Lexeme} {type : CType} {text : List ℕ} → IsType t type → IsParam (t ++ (name_at text at ∷ [])) (record { ctype = type; name = text })

-- { "," param }
pub data AreMoreParams : List Lexeme → List Param → Type 0 where
  no_more : AreMoreParams [] []
  more : {comma : Place} {p m : List Lexeme} {one : Param} {rest : List Param}
      → IsParam p one → AreMoreParams m rest → AreMoreParams (sign_at Comma comma ∷ (p ++ m)) (one ∷ rest)

-- [ "void" | param { "," param } ]
pub data AreParams : List Lexeme → List Param → Type 0 where
  no_params : AreParams [] []
  void_params : {at : Place} → AreParams (word_at Void at ∷ []) []
  params : {p m : List Lexeme} {one : Param} {rest : List Param} → IsParam p one → AreMoreParams m rest → AreParams (p ++ m) (one ∷ rest)

-- "void" | type
pub data IsResult : List Lexeme → Option CType → Type 0 where
  void_result : {at : Place} → IsResult (word_at Void at ∷ []) None
  type_result : {t : List Lexeme} {type : CType} → IsType t type → IsResult t (Some type)

-- func = ("void" | type) NAME "(" [ "void" | param { "," param } ] ")" block
pub data IsFunc : List Lexeme → Func → Type 0 where
  func : (at opening closing : Place) {l : Lexeme} {r p b : List Lexeme} {result : Option CType} {text : List ℕ} {params : List Param} {body : List Stmt}
      → IsResult (l ∷ r) result → AreParams p params → IsBlock b body
      → IsFunc (l ∷ (r ++ (name_at text at ∷ sign_at LeftParen opening ∷ (p ++ (sign_at RightParen closing ∷ b)))))
      (record { at = l.at; result = result; name = text; params = params; body = body })

-- field { field }, where field = type NAME ";"
pub data AreFields : List Lexeme → List Param → Type 0 where
  no_field : AreFields [] []
  fields : (end : Place) {f m : List Lexeme} {one : Param} {rest : List Param}
      → IsParam f one → AreFields m rest → AreFields (f ++ (sign_at Semicolon end ∷ m)) (one ∷ rest)

-- struct = "struct" NAME "{" field { field } "}" ";"
pub data IsStruct : List Lexeme → StructDef → Type 0 where
  struct : {at at' opening : Place} (closing end : Place) {text : List ℕ} {f : List Lexeme} {one : Param} {rest : List Param}
      → AreFields f (one ∷ rest)
      → IsStruct (word_at Struct at ∷ name_at text at' ∷ sign_at LeftBrace opening ∷ (f ++ (sign_at RightBrace closing ∷ sign_at Semicolon end ∷ [])))
      (record { at = at; name = text; fields = one ∷ rest })

-- program = { struct | func }
pub data IsProgram : List Lexeme → Program → Type 0 where
  nothing : IsProgram [] (record { structs = []; funcs = [] })
  with_struct : {s m : List Lexeme} {one : StructDef} {more : Program}
      → IsStruct s one → IsProgram m more → IsProgram (s ++ m) (record { structs = one ∷ more.structs; funcs = more.funcs })
  with_func : {f m : List Lexeme} {one : Func} {more : Program}
      → IsFunc f one → IsProgram m more → IsProgram (f ++ m) (record { structs = more.structs; funcs = one ∷ more.funcs })
