-- Each record of the table has two to eight parts.
use Rattle.std.proofs.Common.{arith}
use Rattle.std.specs.List.{AllByRecursion}
use Rattle.query_syntax.specs.declared.expression_head.ExpressionHead.{ExpressionHead}
use Rattle.query_syntax.specs.ExpressionHeads.{HasRecordSize, expressions}
use Rattle.query_syntax.specs.Rows.{Row}

pub records_sized : AllByRecursion (λ (row : Row ExpressionHead). HasRecordSize row.is) expressions
records_sized = (
  tt,
  (
    tt,
    (
      tt,
      (
        tt,
        (
          tt,
          (
            tt,
            (
              tt,
              (
                tt,
                (
                  tt,
                  (
                    tt,
                    (
                      tt,
                      (
                        tt,
                        (
                          tt,
                          (
                            tt,
                            (
                              tt,
                              (
                                tt,
                                (
                                  (omega arith, omega arith),
                                  (
                                    (omega arith, omega arith),
                                    (
                                      (omega arith, omega arith),
                                      (
                                        (omega arith, omega arith),
                                        (
                                          (omega arith, omega arith),
                                          (
                                            (omega arith, omega arith),
                                            ((omega arith, omega arith), tt),
                                          ),
                                        ),
                                      ),
                                    ),
                                  ),
                                ),
                              ),
                            ),
                          ),
                        ),
                      ),
                    ),
                  ),
                ),
              ),
            ),
          ),
        ),
      ),
    ),
  ),
)
